use Rattle.tables.specs.Views.{tables_of}
use Rattle.classes.specs.Classes.{merges}
use Rattle.unifying.specs.Frames.{pairs}
use Rattle.unifying.specs.Comparing.{Underway}
use Rattle.unifying.specs.Walking.{effort}
use Rattle.unifying.proofs.comparing.same.Given as goal

abbrev pub invariant-loop-i : goal.invariant-loop-i
invariant-loop-i l = Underway (tables_of l.memory) (merges l.initial.classes) (pairs l.initial.frames) (merges l.classes) (pairs l.frames)

abbrev pub decreases-loop-i : goal.decreases-loop-i
decreases-loop-i l = effort (merges l.classes) (pairs l.frames)
