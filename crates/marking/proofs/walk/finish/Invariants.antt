use Rattle.std.proofs.Common.{◌+◌, ◌-◌, length}
use Rattle.tables.specs.Views.{tables_of}
use Rattle.heaps.specs.Leads.{heap_of}
use Rattle.marking.specs.Walks.{waiting, total, Underway, Grown}
use Rattle.marking.proofs.walk.finish.Given as goal

abbrev pub invariant-loop-at : goal.invariant-loop-at
invariant-loop-at g l =
    Underway (heap_of (tables_of l.memory).heap) (g.M.Marks.has l.marks) (waiting l.pending)
    × Grown (heap_of (tables_of l.memory).heap) (g.M.Marks.has l.initial.marks) (g.M.Marks.has l.marks)

-- the cells that wait and those that are not marked
abbrev pub decreases-loop-at : goal.decreases-loop-at
decreases-loop-at g l = length (waiting l.pending) + (4096 - total (g.M.Marks.has l.marks))
