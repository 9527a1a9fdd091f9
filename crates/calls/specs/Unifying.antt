-- Unification on tables: which cell is bound to which word, in which order, and what joins the trail.
-- Depth first, arguments left to right, with occurs check. Of two variables the higher cell is bound to the lower,
-- by a reference; any other bound cell takes the word at the other side's end.
use Rattle.std.specs.Prelude.{ℕ, zero, suc, ◌+◌, cond, List, [], ◌∷◌, ◌==◌, nat_lt, Option, Some, None}
use Rattle.cells.specs.declared.cell.Cell.{Cell}
use Rattle.cells.specs.declared.cell.Cell.TheVariants.{Reference, Pointer, Functor, Atom, Integer}
use Rattle.tables.specs.Tables.{Tables, cell_at}
use Rattle.terms.specs.Terms.{named, whole, occurs, size, same_label}
use Rattle.terms.specs.Robinson.{enough, variables}
use Rattle.heaps.specs.Spelling.{label_of, arity_of, spell}
use Rattle.heaps.specs.Binding.{bind}
use Rattle.heaps.specs.Ends.{end}

-- what is still to be unified: two words, or k argument cells from two places on
pub data Pair : Type 0 where
  words : Cell → Cell → Pair
  rows : ℕ → ℕ → ℕ → Pair

-- a step ends the work, with the new tables if the answer is yes, or leaves tables and pairs
pub data Next : Type 0 where
  stop : Option Tables → Next
  go : Tables → List Pair → Next

-- a variable against an end that is no variable: the occurs check, then the binding
abbrev pub bind_to : Tables → ℕ → Cell → List Pair → Next
bind_to t x w ps = cond (occurs x (spell t.heap w)) (stop None) (go (bind t x w) ps)

-- the ends of two words meet
abbrev pub meet : Tables → Cell → Cell → List Pair → Next
meet t (Reference x) (Reference y) ps = cond (x == y) (go t ps) (cond (nat_lt x y) (go (bind t y (Reference x)) ps) (go (bind t x (Reference y)) ps))
meet t (Reference x) (Pointer q) ps = bind_to t x (Pointer q) ps
meet t (Reference x) (Functor g b) ps = stop None
meet t (Reference x) (Atom b) ps = bind_to t x (Atom b) ps
meet t (Reference x) (Integer z) ps = bind_to t x (Integer z) ps
meet t (Pointer p) (Reference y) ps = bind_to t y (Pointer p) ps
meet t (Pointer p) (Pointer q) ps = cond (same_label (label_of (cell_at t p)) (label_of (cell_at t q))) (go t (rows (suc p) (suc q) (arity_of (cell_at t p)) ∷ ps)) (stop None)
meet t (Pointer p) (Functor g b) ps = stop None
meet t (Pointer p) (Atom b) ps = stop None
meet t (Pointer p) (Integer z) ps = stop None
meet t (Functor f a) c ps = stop None
meet t (Atom a) (Reference y) ps = bind_to t y (Atom a) ps
meet t (Atom a) (Pointer q) ps = stop None
meet t (Atom a) (Functor g b) ps = stop None
meet t (Atom a) (Atom b) ps = cond (same_label (named a) (named b)) (go t (rows 0 0 0 ∷ ps)) (stop None)
meet t (Atom a) (Integer z) ps = stop None
meet t (Integer y) (Reference x) ps = bind_to t x (Integer y) ps
meet t (Integer y) (Pointer q) ps = stop None
meet t (Integer y) (Functor g b) ps = stop None
meet t (Integer y) (Atom b) ps = stop None
meet t (Integer y) (Integer z) ps = cond (same_label (whole y) (whole z)) (go t (rows 0 0 0 ∷ ps)) (stop None)

abbrev pub step : Tables → List Pair → Next
step t [] = stop (Some t)
step t (words a b ∷ ps) = meet t (end t a) (end t b) ps
step t (rows i j zero ∷ ps) = go t ps
step t (rows i j (suc k) ∷ ps) = go t (words (Reference i) (Reference j) ∷ rows (suc i) (suc j) k ∷ ps)

abbrev pub after : (Tables → List Pair → Option Tables) → Next → Option Tables
after r (stop o) = o
after r (go t ps) = r t ps

-- at most g steps
abbrev pub solve : ℕ → Tables → List Pair → Option Tables
solve zero t ps = None
solve (suc g) t ps = after (solve g) (step t ps)

-- the tables after unifying two words, or none; the number of steps is enough for the spelled terms
abbrev pub unify_words : Tables → Cell → Cell → Option Tables
unify_words t a b =
    let u = spell t.heap a in
    let w = spell t.heap b in
    solve (enough (variables u + variables w) (suc (size u + size w))) t (words a b ∷ [])
