use Rattle.std.proofs.Common.{refl}
use Rattle.heaps.proofs.MoveLaws.{spell_moved, acyclic_moved}
use Rattle.heaps.proofs.ShortenLaws.{spell_shorten}
use Rattle.heaps.proofs.spelling.moving_stands.Goals as goal

pub returns : goal.returns
returns c = record { spells = spell_moved; acyclic = acyclic_moved; shorter = spell_shorten; answer = refl }
