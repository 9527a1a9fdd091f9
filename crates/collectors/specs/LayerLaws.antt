-- What a layer must keep, so that it may stand over any collector.
use Rattle.std.specs.Prelude.{◌≡◌, ℕ, ◌≤◌, length}
use Rattle.tables.specs.Tables.{Tables}
use Rattle.terms.specs.Renamings.{Alike}
use Rattle.heaps.specs.Spelling.{spelled}
use Rattle.heaps.specs.Levels.{undo}
use Rattle.heaps.specs.LevelLaws.{Stands}
use Rattle.collectors.specs.Collectors.{Shows}
use Rattle.collectors.specs.Resetting.{reset}
use Rattle.collectors.specs.Shortening.{shorten}

-- The tables u that a layer makes of t stand, have as many choice points, and spell the same terms at each level.
pub record Layered (t u : Tables) : Type 0 where
  pub stands : Stands u
  pub points : length u.choices ≡ length t.choices
  pub spells : (k : ℕ) → k ≤ length t.choices → Alike (spelled (undo t k)) (spelled (undo u k))

-- Under such a layer a collector shows of the tables before the layer what it shows of those that the layer makes.
abbrev pub LayeredShows : Type 0
LayeredShows = (count : ℕ) (t u v : Tables) → Layered t u → Shows count u v → Shows count t v

-- Shortening is such a layer.
abbrev pub ShortenLayered : Type 0
ShortenLayered = (t : Tables) → Stands t → Layered t (shorten t)

-- Early reset is such a layer.
abbrev pub ResetLayered : Type 0
ResetLayered = (t : Tables) → Stands t → Layered t (reset t)
