use Rattle.std.proofs.Common.{refl}
use Rattle.terms.proofs.SameLaws.{same_decides}
use Rattle.terms.proofs.sameness_stands.Goals as goal

pub returns : goal.returns
returns c = record { decides = same_decides; answer = refl }
