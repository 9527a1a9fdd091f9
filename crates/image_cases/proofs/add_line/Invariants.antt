use Rattle.std.proofs.Common.{length}
use Rattle.image_cases.proofs.add_line.Given as goal

abbrev pub decreases-loop-rest : goal.decreases-loop-rest
decreases-loop-rest l = length l.rest
