use Rattle.std.proofs.Common.{◌≤◌}
use Rattle.cycles.proofs.walk.Walk.trace.Given as goal

abbrev pub invariant-loop-next : goal.invariant-loop-next
invariant-loop-next l = l.next-iterator.end ≤ 4096
