-- What a collector means, and what it must show.
use Rattle.std.specs.Prelude.{◌≡◌, ℕ, ◌≤◌, length}
use Rattle.tables.specs.Tables.{Tables, used}
use Rattle.terms.specs.Renamings.{Alike}
use Rattle.heaps.specs.Spelling.{spelled}
use Rattle.heaps.specs.Levels.{undo}
use Rattle.heaps.specs.Rules.{Rules, Fits}

-- A collector's meaning is a count for any tables that keep the rules, never above the cells in use.
pub record Meaning : Type 0 where
  pub count : Tables → ℕ
  pub within : (t : Tables) → Rules t → count t ≤ used t

-- What a collector with that count must show of the tables t before and u after:
-- the rules hold, there are as many choice points, the used cells are the count, and after undoing 0, 1, 2 .. choice
-- points by last the registers spell the same eight terms, up to a one-to-one renaming of variables for that number.
pub record Shows (count : ℕ) (t u : Tables) : Type 0 where
  pub rules : Rules u
  pub fits : Fits u
  pub points : length u.choices ≡ length t.choices
  pub counted : used u ≡ count
  pub spells : (k : ℕ) → k ≤ length t.choices → Alike (spelled (undo t k)) (spelled (undo u k))
