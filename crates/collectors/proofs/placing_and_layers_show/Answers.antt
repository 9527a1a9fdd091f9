use Rattle.std.proofs.Common.{refl}
use Rattle.collectors.proofs.PlacedLevels.{placed_shows}
use Rattle.collectors.proofs.ShortenLevels.{layered_shows, shorten_layered}
use Rattle.collectors.proofs.ResetStages.{reset_layered}
use Rattle.collectors.proofs.placing_and_layers_show.Goals as goal

pub returns : goal.returns
returns c = record { placed = placed_shows; layered = layered_shows; shorten = shorten_layered; reset = reset_layered; answer = refl }
