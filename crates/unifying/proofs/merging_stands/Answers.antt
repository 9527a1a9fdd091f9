use Rattle.std.proofs.Common.{refl}
use Rattle.unifying.proofs.MemoRuns.{memo_right}
use Rattle.unifying.proofs.SameRuns.{same_right}
use Rattle.classes.proofs.MergeCount.{merges_fewer}
use Rattle.unifying.proofs.merging_stands.Goals as goal

pub returns : goal.returns
returns c = record { unifies = memo_right; compares = same_right; fewer = merges_fewer; answer = refl }
