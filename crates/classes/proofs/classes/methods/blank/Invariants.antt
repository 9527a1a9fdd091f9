use Rattle.std.proofs.Common.{◌≡◌, length}
use Rattle.classes.specs.Merges.{Joined}
use Rattle.classes.specs.Links.{merges_of, link_at, rank_at, Untouched}
use Rattle.classes.proofs.classes.methods.blank.Given as goal

abbrev pub invariant-loop-m : goal.invariant-loop-m
invariant-loop-m l = Joined 4096 (merges_of l.merged) × Untouched (merges_of l.merged) (link_at l.nodes) (rank_at l.nodes) × (length l.nodes ≡ 4096)

abbrev pub decreases-loop-m : goal.decreases-loop-m
decreases-loop-m l = length (merges_of l.merged)
