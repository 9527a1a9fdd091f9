-- Two cells are equal in at most one way, and so are two lists of cells.
use Rattle.std.proofs.Common.{◌≡◌, ℕ, zero, suc, List, ℤ, pos, sym, refl, ap, ◌∙◌}
use base.Stored.{Coded, Coded-set, coded×, coded_ℕ, coded_ℤ, coded_list, coded_via}
use Rattle.cells.specs.declared.cell.Cell.{Cell}
use Rattle.cells.specs.declared.cell.Cell.TheVariants.{Reference, Pointer, Functor, Atom, Integer}

-- a cell as its kind and its numbers
abbrev Numbers : Type 0
Numbers = ℕ × (ℕ × (ℕ × ℤ))

abbrev numbers : Cell → Numbers
numbers (Reference n) = (0, (n, (0, pos 0)))
numbers (Pointer n) = (1, (n, (0, pos 0)))
numbers (Functor name arity) = (2, (name, (arity, pos 0)))
numbers (Atom n) = (3, (n, (0, pos 0)))
numbers (Integer z) = (4, (0, (0, z)))

abbrev made : ℕ → ℕ → ℕ → ℤ → Cell
made zero n k z = Reference n
made (suc zero) n k z = Pointer n
made (suc (suc zero)) n k z = Functor n k
made (suc (suc (suc zero))) n k z = Atom n
made (suc (suc (suc (suc m)))) n k z = Integer z

abbrev cell_from : Numbers → Cell
cell_from p = made p.0 p.1.0 p.1.1.0 p.1.1.1

cell_from_numbers : (c : Cell) → cell_from (numbers c) ≡ c
cell_from_numbers (Reference n) = refl
cell_from_numbers (Pointer n) = refl
cell_from_numbers (Functor name arity) = refl
cell_from_numbers (Atom n) = refl
cell_from_numbers (Integer z) = refl

cell_coded : Coded Cell
cell_coded = coded_via (coded× coded_ℕ (coded× coded_ℕ (coded× coded_ℕ coded_ℤ))) numbers (λ c d e. sym (cell_from_numbers c) ∙ ap cell_from e ∙ cell_from_numbers d)

pub cell_set : (c d : Cell) → IsProp (c ≡ d)
cell_set = Coded-set cell_coded

pub cells_set : (cs ds : List Cell) → IsProp (cs ≡ ds)
cells_set = Coded-set (coded_list cell_coded)
