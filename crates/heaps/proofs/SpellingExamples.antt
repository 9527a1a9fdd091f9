-- Examples of spelled terms, of a binding and of ends, computed.
use Rattle.std.proofs.Common.{◌≡◌, [], ◌∷◌, pos, refl}
use Rattle.cells.specs.declared.cell.Cell.TheVariants.{Reference, Pointer, Functor, Atom, Integer}
use Rattle.tables.specs.Tables.{Tables, with_heap, set_up, present, with_choices}
use Rattle.terms.specs.Terms.{named, whole, functor, Term, var, node, nil, cons}
use Rattle.heaps.specs.Spelling.{spell}
use Rattle.heaps.specs.Binding.{bind}
use Rattle.heaps.specs.Ends.{end, steps_to_end}

-- Cells 0 to 2 are the structure f(X, a), where f has name 7 and a is atom 3. Cell 3 refers to X, cell 4 to cell 3.
abbrev tables : Tables
tables = with_heap set_up (Functor 7 2 ∷ Reference 1 ∷ Atom 3 ∷ Reference 1 ∷ Reference 3 ∷ [])

abbrev structure : Term → Term
structure x = node (functor 7 2) (cons x (cons (node (named 3) nil) nil))

spells : spell tables.heap (Pointer 0) ≡ structure (var 1)
spells = refl

chain : (end tables (Reference 4) ≡ Reference 1) × (steps_to_end tables (Reference 4) ≡ 2) × (spell tables.heap (Reference 4) ≡ var 1)
chain = (refl, refl, refl)

-- X is bound to 5. No choice point exists, so nothing joins the trail.
bound : (spell (bind tables 1 (Integer (pos 5))).heap (Pointer 0) ≡ structure (node (whole (pos 5)) nil)) × ((bind tables 1 (Integer (pos 5))).trail ≡ [])
bound = (refl, refl)

-- Below the heap top of a choice point the same binding joins the trail.
trailed : (bind (with_choices tables (present tables ∷ [])) 1 (Integer (pos 5))).trail ≡ 1 ∷ []
trailed = refl
