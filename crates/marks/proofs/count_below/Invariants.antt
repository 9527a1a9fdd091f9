use Rattle.std.proofs.Common.{◌≡◌, ◌≤◌}
use Rattle.marks.specs.Sets.{count_below}
use Rattle.marks.proofs.count_below.Given as goal

abbrev pub invariant-loop-k : goal.invariant-loop-k
invariant-loop-k g l = (l.count ≡ count_below (g.M.Marks.has l.marks) l.k) × (l.count ≤ l.k)
