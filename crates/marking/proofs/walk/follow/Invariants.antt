use Rattle.std.proofs.Common.{◌<◌, ◌≤◌}
use Rattle.marking.specs.Walks.{waiting, Noted}
use Rattle.marking.proofs.walk.follow.Given as goal

-- the cells before n are marked
abbrev pub invariant-loop-n : goal.invariant-loop-n
invariant-loop-n g l =
    Noted (λ k. (l.start ≤ k) × (k < l.n)) (g.M.Marks.has l.initial.marks) (waiting l.initial.pending) (g.M.Marks.has l.marks)
    (waiting l.pending)
