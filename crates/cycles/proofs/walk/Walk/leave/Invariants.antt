use Rattle.std.proofs.Common.{◌≡◌}
use Rattle.cycles.proofs.walk.Walk.leave.Given as goal

abbrev pub invariant-loop-place : goal.invariant-loop-place
invariant-loop-place l = l.self.waiting ≡ l.initial.self.waiting
