use Rattle.std.proofs.Common.{◌-◌}
use Rattle.classes.specs.Links.{rank_at, OnWay}
use Rattle.classes.specs.Classes.{merges}
use Rattle.classes.proofs.classes.Classes.root.Given as goal

abbrev pub invariant-loop-at : goal.invariant-loop-at
invariant-loop-at l = OnWay (merges l.self) l.initial.at l.at

-- ranks rise on the way
abbrev pub decreases-loop-at : goal.decreases-loop-at
decreases-loop-at l = 4096 - rank_at l.self.nodes l.at
