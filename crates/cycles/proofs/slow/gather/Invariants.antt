use Rattle.tables.specs.Views.{tables_of}
use Rattle.heaps.specs.Leads.{heap_of}
use Rattle.cycles.specs.Spans.{LeadTo, HasWithin}
use Rattle.cycles.proofs.slow.gather.Given as goal

abbrev pub invariant-loop-turn : goal.invariant-loop-turn
invariant-loop-turn g l =
    LeadTo (heap_of (tables_of l.memory).heap) l.cell (g.M.Marks.has l.members)
    × HasWithin (heap_of (tables_of l.memory).heap) l.cell l._turn (g.M.Marks.has l.members)
