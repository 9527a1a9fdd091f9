use Rattle.std.proofs.Common.{refl}
use Rattle.machine.proofs.Collections.{collections_agree}
use Rattle.machine.proofs.collections_agree.Goals as goal

pub returns : goal.returns
returns c = record { law = collections_agree; answer = refl }
