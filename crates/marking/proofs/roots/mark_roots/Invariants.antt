use Rattle.std.proofs.Common.{◌≡◌, [], take}
use Rattle.tables.specs.Views.{tables_of}
use Rattle.heaps.specs.Leads.{heap_of}
use Rattle.heaps.specs.Reached.{saved_words}
use Rattle.marking.specs.Marking.{ClosedUnder, MarkedAll}
use Rattle.marking.specs.Walks.{waiting}
use Rattle.marking.proofs.roots.mark_roots.Given as goal

-- what the k newest choice points reach is marked too
abbrev pub invariant-loop-k : goal.invariant-loop-k
invariant-loop-k g l =
    MarkedAll (heap_of (tables_of l.memory).heap) (saved_words (take l.k (tables_of l.memory).choices)) (g.M.Marks.has l.initial.marks) (g.M.Marks.has l.marks)
    × ClosedUnder (heap_of (tables_of l.memory).heap) (g.M.Marks.has l.marks)
    × (waiting l.pending ≡ [])
