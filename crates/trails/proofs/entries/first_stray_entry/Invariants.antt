use Rattle.std.proofs.Common.{◌≡◌, ℕ, ◌<◌, false, take}
use Rattle.tables.specs.Tables.{used}
use Rattle.tables.specs.Views.{tables_of}
use Rattle.heaps.specs.Leads.{heap_of}
use Rattle.heaps.specs.RuleTests.{stray_entry}
use Rattle.trails.specs.Named.{Names}
use Rattle.trails.proofs.entries.first_stray_entry.Given as goal

abbrev pub invariant-loop-j : goal.invariant-loop-j
invariant-loop-j g l =
    ((i : ℕ) → i < l.j → stray_entry (heap_of (tables_of l.memory).heap) (used (tables_of l.memory)) (tables_of l.memory).trail i ≡ false)
    × Names (g.M.Marks.has l.named) (take l.j (tables_of l.memory).trail)
