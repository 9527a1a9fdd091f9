use Rattle.std.proofs.Common.{◌≡◌, false}
use Rattle.tables.specs.Tables.{used}
use Rattle.tables.specs.Views.{tables_of}
use Rattle.heaps.specs.Leads.{heap_of}
use Rattle.cycles.specs.Spans.{Round}
use Rattle.cycles.proofs.slow.spread_once.Given as goal

abbrev pub invariant-loop-i : goal.invariant-loop-i
invariant-loop-i g l =
    Round (heap_of (tables_of l.memory).heap) l.i (used (tables_of l.memory)) (g.M.Marks.has l.initial.members) (g.M.Marks.has l.members)
    × (l.more ≡ false → g.M.Marks.has l.members ≡ g.M.Marks.has l.initial.members)
