-- Sets of cells that trail entries name.
use Rattle.std.specs.Prelude.{◌≡◌, ℕ, ◌<◌, Bool, List}
use Rattle.cells.specs.declared.cell.Cell.{Cell}
use Rattle.tables.specs.Tables.{Choice}
use Rattle.heaps.specs.Lists.{is_in}
use Rattle.heaps.specs.Leads.{heap_of}
use Rattle.heaps.specs.Levels.{seen_from}
use Rattle.heaps.specs.Reached.{any_from}
use Rattle.heaps.specs.RuleTests.{leads_past}

-- the set has, of the cells, exactly those that the entries name
abbrev pub Names : (ℕ → Bool) → List ℕ → Type 0
Names s es = (k : ℕ) → k < 4096 → s k ≡ is_in k es

-- whether a cell below the heap top of a choice point leads past it, once the entries from its trail top on are undone
abbrev pub cells_leak : List Cell → List ℕ → Choice → Bool
cells_leak cells trail c = any_from 0 c.heap_top (λ i. leads_past c.heap_top i (heap_of (seen_from c cells trail) i))
