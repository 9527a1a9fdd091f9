-- Unification in the subject's words: what two registers spell, and what the registers spell afterwards.
use Rattle.std.specs.Prelude.{◌≡◌, ℕ, Bool, true, false, Ok, Err, Result}
use Rattle.cells.specs.declared.refusal.Refusal.{Refusal}
use Rattle.tables.specs.Tables.{Tables, register}
use Rattle.terms.specs.Terms.{Term, apply}
use Rattle.terms.specs.Unifiers.{Subst, Unifier, MostGeneral}
use Rattle.heaps.specs.Spelling.{spell}

-- the term that a register spells, with an unbound cell c as variable c
abbrev pub term_of : Tables → ℕ → Term
term_of t r = spell t.heap (register t r)

-- From the tables t two registers were unified, which left the tables u.
-- Yes: some most general unifier of the two terms was carried out on the term of every register.
-- No: no substitution makes the two terms equal, and the tables are as they were.
abbrev pub UnifiesTerms : Tables → ℕ → ℕ → Result Bool Refusal → Tables → Type 0
UnifiesTerms t a b (Ok true) u = (μ : Subst) × MostGeneral μ (term_of t a) (term_of t b) × ((r : ℕ) → term_of u r ≡ apply μ (term_of t r))
UnifiesTerms t a b (Ok false) u = ((θ : Subst) → Unifier θ (term_of t a) (term_of t b) → ⊥) × (u ≡ t)
UnifiesTerms t a b (Err why) u = Unit {0}
