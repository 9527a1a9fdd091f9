use Rattle.std.proofs.Common.{refl}
use Rattle.heaps.proofs.BindLaws.{spell_bind}
use Rattle.heaps.proofs.BindRules.{rules_bind, fits_bind}
use Rattle.heaps.proofs.spelling.binding_stands.Goals as goal

pub returns : goal.returns
returns c = record { spells = spell_bind; keeps = rules_bind; fits = fits_bind; answer = refl }
