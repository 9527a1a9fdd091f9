-- What is proved of unification on tables: statements, each of which stands in the contract of a public function.
use Rattle.std.specs.Prelude.{◌≡◌, Option, Some, None}
use Rattle.cells.specs.declared.cell.Cell.{Cell}
use Rattle.tables.specs.Tables.{Tables, used}
use Rattle.terms.specs.Terms.{var, apply}
use Rattle.terms.specs.Unifiers.{Subst, Idempotent, Unifier, MostGeneral}
use Rattle.terms.specs.Robinson.{unify}
use Rattle.heaps.specs.Leads.{heap_of}
use Rattle.heaps.specs.Spelling.{spell}
use Rattle.heaps.specs.Levels.{last}
use Rattle.heaps.specs.Rules.{WordKeeps}
use Rattle.heaps.specs.LevelLaws.{Stands, Keeps, HasChoice}
use Rattle.calls.specs.Unifying.{unify_words}

-- The tables u are the tables t with some cells bound: all that is spelled changes by the substitution σ.
-- Registers and choice points are as they were, and so is what the newest choice point goes back to.
pub record Bound (t u : Tables) (σ : Subst) : Type 0 where
  pub stands : Stands u
  pub cells : used u ≡ used t
  pub registers : u.registers ≡ t.registers
  pub choices : u.choices ≡ t.choices
  pub spells : (d : Cell) → spell u.heap d ≡ apply σ (spell t.heap d)
  pub keeps : (d : Cell) → WordKeeps (heap_of t.heap) (used t) d → WordKeeps (heap_of u.heap) (used u) d
  pub older : HasChoice t → last u ≡ last t

-- Tables and terms both say no; or both say yes, and the tables are bound as the terms' answer says.
abbrev pub BothBound : Tables → Option Tables → Option Subst → Type 0
BothBound t None None = Unit {0}
BothBound t None (Some σ) = ⊥
BothBound t (Some u) None = ⊥
BothBound t (Some u) (Some σ) = Bound t u σ

-- Unifying two words takes Robinson's steps on the terms that they spell, with an unbound cell c as variable c.
abbrev pub UnifySteps : Type 0
UnifySteps = (t : Tables) (a b : Cell) → Stands t → Keeps t a → Keeps t b
    → BothBound t (unify_words t a b) (unify var (spell t.heap a) (spell t.heap b))

-- No substitution makes the two spelled terms equal;
-- or an idempotent most general unifier of theirs is what happened to every spelled term.
abbrev pub MadeEqual : Tables → Cell → Cell → Option Tables → Type 0
MadeEqual t a b None = (θ : Subst) → Unifier θ (spell t.heap a) (spell t.heap b) → ⊥
MadeEqual t a b (Some u) =
    (μ : Subst) × MostGeneral μ (spell t.heap a) (spell t.heap b) × Idempotent μ × ((d : Cell) → spell u.heap d ≡ apply μ (spell t.heap d))

abbrev pub UnifyIso : Type 0
UnifyIso = (t : Tables) (a b : Cell) → Stands t → Keeps t a → Keeps t b → MadeEqual t a b (unify_words t a b)
