-- Under any pile of layers copying and sliding show what a collector must: each layer keeps what is spelled at every level, and the
-- collector below it shows the rest.
use Rattle.std.proofs.Common.{◌≡◌, ℕ, not, List, [], ◌∷◌, ◌++◌, length, refl, ◌∙◌, arith}
use Rattle.std.proofs.lemmas.List.{length-map}
use Rattle.cells.specs.declared.cell.Cell.{Cell}
use Rattle.tables.specs.Tables.{Choice, Tables, used}
use Rattle.heaps.specs.LevelLaws.{Stands}
use Rattle.heaps.proofs.SeenLaws.{length_unbind}
use Rattle.heaps.proofs.ReachedCount.{reached_at_most}
use Rattle.collectors.specs.Placing.{kept}
use Rattle.collectors.specs.Copying.{copied}
use Rattle.collectors.specs.Sliding.{slid}
use Rattle.collectors.specs.Resetting.{reset_below, stretch, marked}
use Rattle.collectors.specs.Shortening.{short}
use Rattle.collectors.specs.Layers.{Layer, resetting, shortening, changed, piled, pile_count, PiledShows, PiledWithin}
use Rattle.collectors.specs.LayerLaws.{Layered}
use Rattle.collectors.proofs.CopyScan.{copied_shows}
use Rattle.collectors.proofs.SlideOrder.{slid_shows}
use Rattle.collectors.proofs.ShortenLevels.{layered_shows, shorten_layered}
use Rattle.collectors.proofs.ResetStages.{reset_layered}

layered : (l : Layer) (t : Tables) → Stands t → Layered t (changed l t)
layered resetting t st = reset_layered t st
layered shortening t st = shorten_layered t st

pub piled_shows : PiledShows
piled_shows [] t st = (copied_shows t st, slid_shows t st)
piled_shows (l ∷ ls) t st =
    let below = layered l t st in
    let rest = piled_shows ls (changed l t) below.stands in (
      layered_shows (pile_count ls (changed l t)) t (changed l t) (copied (piled ls (changed l t))) below rest.0,
      layered_shows (pile_count ls (changed l t)) t (changed l t) (slid (piled ls (changed l t))) below rest.1,
    )

-- Layers neither take cells nor give any back.
reset_long : (cs : List Choice) (m : ℕ) (trail : List ℕ) (cells words : List Cell) → length (reset_below cs m trail cells words).heap ≡ length cells
reset_long [] m trail cells words = length_unbind cells (kept (λ e. not (marked cells words e)) (stretch 0 m trail))
reset_long (c ∷ cs) m trail cells words = reset_long cs c.trail_top trail _ (words ++ c.saved) ∙ length_unbind cells (kept (λ e. not (marked cells words e)) (stretch c.trail_top m trail))

changed_used : (l : Layer) (t : Tables) → used (changed l t) ≡ used t
changed_used resetting t = reset_long t.choices (length t.trail) t.trail t.heap t.registers
changed_used shortening t = length-map t.heap (short t)

piled_used : (ls : List Layer) (t : Tables) → used (piled ls t) ≡ used t
piled_used [] t = refl
piled_used (l ∷ ls) t = piled_used ls (changed l t) ∙ changed_used l t

pub piled_within : PiledWithin
piled_within ls t = let a = reached_at_most (piled ls t) in let b = piled_used ls t in omega arith
