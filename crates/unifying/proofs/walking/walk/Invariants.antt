use Rattle.std.proofs.Common.{Option}
use Rattle.tables.specs.Tables.{Tables}
use Rattle.tables.specs.Views.{tables_of}
use Rattle.unifying.specs.Merging.{MemoRun}
use Rattle.unifying.specs.Bindings.{Stepped}
use Rattle.unifying.specs.Walking.{Underway, effort}
use Rattle.unifying.specs.Works.{merges_in, pairs_in, bound_in}
use Rattle.unifying.proofs.walking.walk.Given as goal

abbrev pub invariant-loop-i : goal.invariant-loop-i
invariant-loop-i l =
    Underway (Option Tables) MemoRun (tables_of l.initial.memory) (merges_in l.initial.work) (pairs_in l.initial.work) (tables_of l.memory) (merges_in l.work) (pairs_in l.work)
    × Stepped (tables_of l.initial.memory) (bound_in l.initial.work) (tables_of l.memory) (bound_in l.work)

abbrev pub decreases-loop-i : goal.decreases-loop-i
decreases-loop-i l = effort (merges_in l.work) (pairs_in l.work)
