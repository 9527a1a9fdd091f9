use Rattle.std.proofs.Common.{refl}
use Rattle.calls.proofs.UnifySteps.{unify_steps}
use Rattle.calls.proofs.UnifyMostGeneral.{unify_iso}
use Rattle.calls.proofs.unifying.unifying_stands.Goals as goal

pub returns : goal.returns
returns c = record { steps = unify_steps; general = unify_iso; answer = refl }
