-- Chains of references. A reference to a bound cell goes on with the word in that cell.
-- A chain ends at a reference to an unbound cell, and at every word that is no reference.
use Rattle.std.specs.Prelude.{ℕ, zero, suc, cond}
use Rattle.cells.specs.declared.cell.Cell.{Cell}
use Rattle.cells.specs.declared.cell.Cell.TheVariants.{Reference, Pointer, Functor, Atom, Integer}
use Rattle.tables.specs.Tables.{Tables, used}
use Rattle.heaps.specs.Leads.{Heap, heap_of, unbound}

-- the word that a chain comes to within so many steps
abbrev pub end_by : ℕ → Heap → Cell → Cell
end_by zero h c = c
end_by (suc g) h (Reference n) = cond (unbound h n) (Reference n) (end_by g h (h n))
end_by (suc g) h (Pointer n) = Pointer n
end_by (suc g) h (Functor name arity) = Functor name arity
end_by (suc g) h (Atom n) = Atom n
end_by (suc g) h (Integer z) = Integer z

-- how many of so many steps a chain takes
abbrev pub steps_by : ℕ → Heap → Cell → ℕ
steps_by zero h c = 0
steps_by (suc g) h (Reference n) = cond (unbound h n) 0 (suc (steps_by g h (h n)))
steps_by (suc g) h (Pointer n) = 0
steps_by (suc g) h (Functor name arity) = 0
steps_by (suc g) h (Atom n) = 0
steps_by (suc g) h (Integer z) = 0

-- The end of the chain that the word begins. Where no cell leads back to itself, no chain takes more steps than there are cells.
abbrev pub end : Tables → Cell → Cell
end t c = end_by (suc (used t)) (heap_of t.heap) c

-- how many steps lead from the word to the end of its chain
abbrev pub steps_to_end : Tables → Cell → ℕ
steps_to_end t c = steps_by (suc (used t)) (heap_of t.heap) c
