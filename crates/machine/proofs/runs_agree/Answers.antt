use Rattle.std.proofs.Common.{refl}
use Rattle.machine.proofs.RunsAgree.{runs_agree, set_up_loaded}
use Rattle.machine.proofs.RunsCounted.{runs_counted}
use Rattle.machine.proofs.runs_agree.Goals as goal

pub returns : goal.returns
returns c = record { law = runs_agree; start = set_up_loaded; counts = runs_counted; answer = refl }
