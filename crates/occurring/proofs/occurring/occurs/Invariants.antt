use Rattle.std.proofs.Common.{◌≡◌, ◌-◌}
use Rattle.cells.specs.declared.cell.Cell.{Cell}
use Rattle.tables.specs.Views.{tables_of}
use Rattle.heaps.specs.Leads.{heap_of}
use Rattle.occurring.specs.Visits.{visited}
use Rattle.occurring.proofs.OccursWalk.{Walked}
use Rattle.occurring.proofs.occurring.occurs.Given as goal

-- the cells before `place` are looked at
abbrev pub invariant-loop-place : goal.invariant-loop-place
invariant-loop-place l =
    (l.seen.table.ghost_name ≡ l.initial.seen.table.ghost_name)
    × ((w : Cell) → Walked (heap_of (tables_of l.memory).heap) w l.x (visited l.initial.seen.table.now) l.initial.place
    → Walked (heap_of (tables_of l.memory).heap) w l.x (visited l.seen.table.now) l.place)

abbrev pub decreases-loop-place : goal.decreases-loop-place
decreases-loop-place l = 4096 - l.place
