-- What an order of the reached cells must have, so that placing them in it is a collection.
use Rattle.std.specs.Prelude.{◌≡◌, ℕ, ◌+◌, ◌<◌, ◌≤◌, true, List, length}
use Rattle.tables.specs.Tables.{Tables, used, cell_at}
use Rattle.heaps.specs.Lists.{Each, is_in, Different}
use Rattle.heaps.specs.Leads.{heap_of, LeadsBy}
use Rattle.heaps.specs.Spelling.{arity_of}
use Rattle.heaps.specs.Levels.{seen_from}
use Rattle.heaps.specs.Reached.{is_reached, reached_count}
use Rattle.heaps.specs.LevelLaws.{Stands}
use Rattle.collectors.specs.Collectors.{Shows}
use Rattle.collectors.specs.Placing.{place_in, placed}
use Rattle.collectors.specs.Copying.{copied}
use Rattle.collectors.specs.Sliding.{slid}

-- The order lists each reached cell once, and the arguments of a functor right after it. `top` takes heap tops to heap tops:
-- the cells below one are placed below the other, and what is placed there leads nowhere else, as that choice point sees it.
pub record Orders (t : Tables) (order : List ℕ) (top : ℕ → ℕ) : Type 0 where
  pub members : (i : ℕ) → is_in i order ≡ is_reached t i
  pub different : Different order
  pub neighbours : (i m : ℕ) → is_reached t i ≡ true → m ≤ arity_of (cell_at t i) → place_in order (i + m) ≡ place_in order i + m
  pub rising : (a b : ℕ) → a ≤ b → top a ≤ top b
  pub most : (a : ℕ) → a ≤ used t → top a ≤ length order
  pub below : (i a : ℕ) → is_reached t i ≡ true → i < a → a ≤ used t → place_in order i < top a
  pub closed : Each (λ c. (i j : ℕ) → is_reached t i ≡ true → place_in order i < top c.heap_top → LeadsBy i (heap_of (seen_from c t.heap t.trail) i) j
      → place_in order j < top c.heap_top) t.choices

-- Placing the reached cells in such an order shows what a collector must, with the number of reached cells as its count.
abbrev pub PlacedShows : Type 0
PlacedShows = (t : Tables) (order : List ℕ) (top : ℕ → ℕ) → Stands t → Orders t order top → Shows (reached_count t) t (placed order top t)

-- Sliding shows what a collector must.
abbrev pub SlidShows : Type 0
SlidShows = (t : Tables) → Stands t → Shows (reached_count t) t (slid t)

-- Copying shows what a collector must.
abbrev pub CopiedShows : Type 0
CopiedShows = (t : Tables) → Stands t → Shows (reached_count t) t (copied t)
