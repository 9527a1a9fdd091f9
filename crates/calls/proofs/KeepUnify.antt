-- Unifying two words that may stand in registers keeps the rules, and the newest choice point undoes what it bound.
use Rattle.std.proofs.Common.{◌≡◌, subst, Option, Some, None}
use Rattle.cells.specs.declared.cell.Cell.{Cell}
use Rattle.tables.specs.Tables.{Tables}
use Rattle.terms.specs.Terms.{var}
use Rattle.terms.specs.Unifiers.{Subst}
use Rattle.terms.specs.Robinson.{unify}
use Rattle.heaps.specs.Spelling.{spell}
use Rattle.heaps.specs.Levels.{last}
use Rattle.heaps.specs.LevelLaws.{Stands, Keeps, HasChoice}
use Rattle.calls.specs.Unifying.{unify_words}
use Rattle.calls.specs.UnifyLaws.{BothBound}
use Rattle.calls.proofs.UnifySteps.{unify_steps}

pub unify_keeps : (t u : Tables) (a b : Cell) → Stands t → Keeps t a → Keeps t b → unify_words t a b ≡ Some u → Stands u × (HasChoice t → last u ≡ last t)
unify_keeps t u a b s k l e = by (unify var (spell t.heap a) (spell t.heap b)) (subst (λ (o : Option Tables). BothBound t o (unify var (spell t.heap a) (spell t.heap b))) e (unify_steps t a b s k l))
  where
    by : (o : Option Subst) → BothBound t (Some u) o → Stands u × (HasChoice t → last u ≡ last t)
    by None x = absurd x
    by (Some σ) x = (x.stands, x.older)
