use Rattle.std.proofs.Common.{◌≡◌, ◌-◌}
use Rattle.occurring.specs.Visits.{visited, visit_all}
use Rattle.occurring.proofs.occurring.follow.Given as goal

-- the cells before n are visited
abbrev pub invariant-loop-n : goal.invariant-loop-n
invariant-loop-n l = visited l.table ≡ visit_all (visited l.initial.table) l.start (l.n - l.start)
