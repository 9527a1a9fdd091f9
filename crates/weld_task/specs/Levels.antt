-- The choice points of a store, and the tables that the oldest of them goes back to.
use Rattle.std.specs.Prelude.{◌≡◌, ℕ, suc, ◌⊎◌, List, [], ◌∷◌, length, Ok, Err, Result, Option, Some, None}
use Rattle.cells.specs.declared.refusal.Refusal.{Refusal}
use Rattle.tables.specs.Tables.{Choice, Tables}
use Rattle.heaps.specs.Levels.{undo}
use Rattle.calls.specs.Steps.{Half}
use Rattle.store.specs.declared.store.Store.{Store}
use Rattle.store.specs.Called.{state}
use Rattle.weld_task.specs.Slips.{half_in}

-- what the oldest of these choice points goes back to: the tables with all of them undone
abbrev pub oldest_of : List Choice → Tables → Option Tables
oldest_of [] t = None
oldest_of (c ∷ cs) t = Some (undo t (length (c ∷ cs)))

abbrev pub oldest : Store → Option Tables
oldest s = oldest_of (state s).tables.choices (state s).tables

abbrev pub points : Store → ℕ
points s = length (state s).tables.choices

-- how many choice points there are, and what the oldest goes back to
abbrev pub levels : Store → ℕ × Option Tables
levels s = (points s, oldest s)

-- what trying a rule leaves as it is: the structure that is half made, and the levels
abbrev pub base : Store → Option Half × (ℕ × Option Tables)
base s = (half_in s, levels s)

-- the oldest choice point, if there was one, goes back to the same tables
abbrev pub SameOldest : Store → Store → Type 0
SameOldest s t = (b : Tables) → oldest s ≡ Some b → oldest t ≡ Some b

-- While no structure was half made, a choice point was opened, which goes back to the tables from before it if it is the
-- only one; or open was refused, and nothing has changed.
abbrev pub Opened : {A : Type 0} → Store → Result A Refusal → Store → Type 0
Opened s (Ok a) t = (half_in s ≡ None) × (points t ≡ suc (points s)) × (points s ≡ 0 → oldest t ≡ Some (state s).tables)
Opened s (Err why) t = state t ≡ state s

-- The tables are those of the oldest choice point, if there was one and no structure was half made.
abbrev pub WentBack : Store → Store → Type 0
WentBack s t = (b : Tables) → half_in s ≡ None → oldest s ≡ Some b → state t ≡ record { tables = b; half = None }

-- A store without choice points is brought back to what it was.
abbrev pub BroughtBack : Store → Store → Type 0
BroughtBack s t = points s ≡ 0 → state t ≡ state s

-- A store with choice points is as it was, or has the tables that the oldest of them goes back to.
abbrev pub BackToOldest : Store → Store → Type 0
BackToOldest s t = (b : Tables) → oldest s ≡ Some b → (state t ≡ state s) ⊎ (state t ≡ record { tables = b; half = None })
