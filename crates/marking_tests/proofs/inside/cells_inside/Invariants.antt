use Rattle.std.proofs.Common.{ℕ, ◌<◌}
use Rattle.tables.specs.Views.{tables_of}
use Rattle.heaps.specs.Leads.{heap_of}
use Rattle.marking_tests.proofs.Insides.{Inside}
use Rattle.marking_tests.proofs.inside.cells_inside.Given as goal

abbrev pub invariant-loop-i : goal.invariant-loop-i
invariant-loop-i l = (n : ℕ) → n < l.i → Inside n (heap_of (tables_of l.memory).heap n)
