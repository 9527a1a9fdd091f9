use Rattle.std.proofs.Common.{◌≡◌, ◌++◌, replicate}
use Rattle.cells.specs.declared.cell.Cell.TheVariants.{Atom}
use Rattle.tables.specs.Tables.{with_heap}
use Rattle.tables.specs.Views.{tables_of}
use Rattle.store.proofs.store.structures.push_blanks.Given as goal

abbrev pub invariant-loop-i : goal.invariant-loop-i
invariant-loop-i l = let t = tables_of l.initial.memory in tables_of l.memory ≡ with_heap t (t.heap ++ replicate l._i (Atom 0))
