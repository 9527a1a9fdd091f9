use Rattle.std.proofs.Common.{ℕ, List, length, Option}
use Rattle.heaps.specs.Lists.{Each}
use Rattle.calls.specs.Unifying.{Pair}
use Rattle.unifying.specs.Frames.{pairs}
use Rattle.unifying.specs.Walking.{Draws, Inside}
use Rattle.unifying.proofs.frames.Frames.next.Given as goal

-- what is drawn from the rows that are left is drawn from all
abbrev pub invariant-loop-frame : goal.invariant-loop-frame
invariant-loop-frame l = Each Inside (pairs l.self) × ((o : Option (ℕ × ℕ)) (qs : List Pair) → Draws (pairs l.self) o qs → Draws (pairs l.initial.self) o qs)

abbrev pub decreases-loop-frame : goal.decreases-loop-frame
decreases-loop-frame l = length (pairs l.self)
