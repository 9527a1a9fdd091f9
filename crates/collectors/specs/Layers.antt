-- Piles of layers over copying and sliding.
use Rattle.std.specs.Prelude.{ℕ, ◌≤◌, List, [], ◌∷◌}
use Rattle.tables.specs.Tables.{Tables, used}
use Rattle.heaps.specs.Reached.{reached_count}
use Rattle.heaps.specs.LevelLaws.{Stands}
use Rattle.collectors.specs.Collectors.{Shows}
use Rattle.collectors.specs.Copying.{copied}
use Rattle.collectors.specs.Sliding.{slid}
use Rattle.collectors.specs.Resetting.{reset}
use Rattle.collectors.specs.Shortening.{shorten}

pub data Layer : Type 0 where
  resetting shortening : Layer

abbrev pub changed : Layer → Tables → Tables
changed resetting t = reset t
changed shortening t = shorten t

-- the tables that a pile of layers hands to the collector below; the first layer of the list acts first
abbrev pub piled : List Layer → Tables → Tables
piled [] t = t
piled (l ∷ ls) t = piled ls (changed l t)

-- the count of copying and of sliding under the pile: the number of reached cells of the tables that the layers leave
abbrev pub pile_count : List Layer → Tables → ℕ
pile_count ls t = reached_count (piled ls t)

-- Under any pile of layers copying and sliding show what a collector must.
abbrev pub PiledShows : Type 0
PiledShows = (ls : List Layer) (t : Tables) → Stands t
    → Shows (pile_count ls t) t (copied (piled ls t)) × Shows (pile_count ls t) t (slid (piled ls t))

-- That count is never above the cells in use.
abbrev pub PiledWithin : Type 0
PiledWithin = (ls : List Layer) (t : Tables) → pile_count ls t ≤ used t
