use Rattle.std.proofs.Common.{◌≡◌, ℕ, ◌<◌, false}
use Rattle.tables.specs.Tables.{used}
use Rattle.tables.specs.Views.{tables_of}
use Rattle.heaps.specs.Leads.{heap_of}
use Rattle.heaps.specs.RuleTests.{on_cycle}
use Rattle.cycles.proofs.slow.first_gathered.Given as goal

abbrev pub invariant-loop-cell : goal.invariant-loop-cell
invariant-loop-cell g l = (i : ℕ) → i < l.cell → on_cycle (heap_of (tables_of l.memory).heap) (used (tables_of l.memory)) i ≡ false
