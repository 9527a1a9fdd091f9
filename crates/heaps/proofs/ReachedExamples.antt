-- Small tables, and what is reached in them.
use Rattle.std.proofs.Common.{◌≡◌, true, false, [], ◌∷◌, pos, refl}
use Rattle.cells.specs.declared.cell.Cell.TheVariants.{Reference, Pointer, Functor, Atom, Integer}
use Rattle.tables.specs.Tables.{Tables, set_up, with_heap, set_register, push_cell, push_choice}
use Rattle.marks.specs.Sets.{count_below}
use Rattle.heaps.specs.Reached.{is_reached, reached_count}
use Rattle.heaps.specs.Levels.{last}
use Rattle.heaps.specs.Binding.{bind}

-- Nothing is reached after set-up.
set_up_lem : reached_count set_up ≡ 0
unfolding count_below
set_up_lem = refl

-- X0 and X1 are two new variables; they are unified, the higher bound to the lower, and the lower is bound to integer 4.
abbrev variables : Tables
variables = set_register (push_cell (set_register (push_cell set_up (Reference 0)) 0 (Reference 0)) (Reference 1)) 1 (Reference 1)

abbrev bound : Tables
bound = bind (bind variables 1 (Reference 0)) 0 (Integer (pos 4))

bound_heap : bound.heap ≡ (Integer (pos 4) ∷ Reference 0 ∷ [])
bound_heap = refl

bound_count : reached_count bound ≡ 2
unfolding count_below
bound_count = refl

-- Without X1 the reference in cell 1 is reached no more, but X0 still reaches cell 0; without X0 both are reached through X1.
without_upper : reached_count (set_register bound 1 (Atom 0)) ≡ 1
unfolding count_below
without_upper = refl

without_lower : reached_count (set_register bound 0 (Atom 0)) ≡ 2
unfolding count_below
without_lower = refl

-- The structure f(X, a), whose first argument is unbound, and a cell that no register reaches.
abbrev structure : Tables
structure = set_register (with_heap set_up (Functor 2 2 ∷ Reference 1 ∷ Atom 1 ∷ Integer (pos 7) ∷ [])) 0 (Pointer 0)

structure_cells : (is_reached structure 0 ≡ true) × (is_reached structure 1 ≡ true) × (is_reached structure 2 ≡ true) × (is_reached structure 3 ≡ false)
structure_cells = (refl, refl, refl, refl)

structure_count : reached_count structure ≡ 3
unfolding count_below
structure_count = refl

-- X0 is a variable, a choice point is opened, and X0 is bound to g(a): three cells are reached.
abbrev opened : Tables
opened = push_choice (set_register (push_cell set_up (Reference 0)) 0 (Reference 0))

abbrev newer : Tables
newer = bind (push_cell (push_cell opened (Functor 3 1)) (Atom 1)) 0 (Pointer 1)

newer_count : reached_count newer ≡ 3
unfolding count_below
newer_count = refl

-- They are reached through the saved X0 alone, too; after undoing one is.
newer_saved : reached_count (set_register newer 0 (Atom 0)) ≡ 3
unfolding count_below
newer_saved = refl

newer_undone : reached_count (last newer) ≡ 1
unfolding count_below
newer_undone = refl
