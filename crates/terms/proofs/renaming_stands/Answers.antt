use Rattle.std.proofs.Common.{refl}
use Rattle.terms.proofs.UnifyAlike.{alike_unify}
use Rattle.terms.proofs.renaming_stands.Goals as goal

pub returns : goal.returns
returns c = record { alike = alike_unify; answer = refl }
