use Rattle.std.proofs.Common.{refl}
use Rattle.machine.proofs.WorkedExamples.{worked, worked_slips}
use Rattle.machine.proofs.worked_examples_hold.Goals as goal

pub returns : goal.returns
returns c = record { examples = worked; slips = worked_slips; answer = refl }
