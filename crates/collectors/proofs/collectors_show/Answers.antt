use Rattle.std.proofs.Common.{refl}
use Rattle.collectors.proofs.Piles.{piled_shows, piled_within}
use Rattle.collectors.proofs.collectors_show.Goals as goal

pub returns : goal.returns
returns c = record { shows = piled_shows; within = piled_within; answer = refl }
