-- Unifying two words finds a most general unifier of the terms that they spell, or there is none.
use Rattle.std.proofs.Common.{Option, Some, None}
use Rattle.cells.specs.declared.cell.Cell.{Cell}
use Rattle.tables.specs.Tables.{Tables}
use Rattle.terms.specs.Terms.{var}
use Rattle.terms.specs.Unifiers.{Subst}
use Rattle.terms.specs.Robinson.{unify}
use Rattle.terms.specs.Laws.{Settles}
use Rattle.terms.proofs.MostGeneral.{unify_settles}
use Rattle.heaps.specs.Spelling.{spell}
use Rattle.calls.specs.Unifying.{unify_words}
use Rattle.calls.specs.UnifyLaws.{BothBound, MadeEqual, UnifyIso}
use Rattle.calls.proofs.UnifySteps.{unify_steps}

settled_equal : (t : Tables) (a b : Cell) (o : Option Tables) (r : Option Subst) → BothBound t o r → Settles (spell t.heap a) (spell t.heap b) r → MadeEqual t a b o
settled_equal t a b None None s p = p
settled_equal t a b None (Some σ) s p = absurd s
settled_equal t a b (Some u) None s p = absurd s
settled_equal t a b (Some u) (Some σ) s p = (σ, p.0, p.1, s.spells)

pub unify_iso : UnifyIso
unify_iso t a b s k l =
    settled_equal t a b (unify_words t a b) (unify var (spell t.heap a) (spell t.heap b)) (unify_steps t a b s k l) (unify_settles (spell t.heap a) (spell t.heap b))
