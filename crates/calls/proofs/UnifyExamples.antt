-- Examples of unifying words, computed: which cells are bound to which words, and which join the trail.
use Rattle.std.proofs.Common.{◌≡◌, ℕ, List, [], ◌∷◌, refl, Option, Some, None}
use Rattle.std.specs.Option.{option_map}
use Rattle.cells.specs.declared.cell.Cell.{Cell}
use Rattle.cells.specs.declared.cell.Cell.TheVariants.{Reference, Pointer, Functor, Atom}
use Rattle.tables.specs.Tables.{Tables, with_heap, set_up, push_choice}
use Rattle.calls.specs.Unifying.{unify_words}

-- Cells 0 to 2 are g(X, Y), cells 3 to 5 are g(Y, a), where X is cell 1, Y is cell 2 and a is atom 6.
abbrev tables : Tables
tables = with_heap set_up (Functor 7 2 ∷ Reference 1 ∷ Reference 2 ∷ Functor 7 2 ∷ Reference 2 ∷ Atom 6 ∷ [])

abbrev heap_after : Option Tables → Option (List Cell)
heap_after = option_map (λ (t : Tables). t.heap)

abbrev trail_after : Option Tables → Option (List ℕ)
trail_after = option_map (λ (t : Tables). t.trail)

-- First the higher variable Y is bound to X by a reference, then X takes the atom. Nothing joins the trail without a choice point.
all_equal : heap_after (unify_words tables (Pointer 0) (Pointer 3)) ≡ Some (Functor 7 2 ∷ Atom 6 ∷ Reference 1 ∷ Functor 7 2 ∷ Reference 2 ∷ Atom 6 ∷ [])
all_equal = refl

no_entries : trail_after (unify_words tables (Pointer 0) (Pointer 3)) ≡ Some []
no_entries = refl

-- With a choice point both cells join it, in the order of the bindings.
two_entries : trail_after (unify_words (push_choice tables) (Pointer 0) (Pointer 3)) ≡ Some (2 ∷ 1 ∷ [])
two_entries = refl

-- X and g(X, Y): the occurs check says no.
own_argument : unify_words tables (Reference 1) (Pointer 0) ≡ None
own_argument = refl
