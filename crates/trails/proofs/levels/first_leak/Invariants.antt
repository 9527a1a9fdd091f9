use Rattle.std.proofs.Common.{◌≡◌, ℕ, ◌<◌, false}
use Rattle.tables.specs.Views.{tables_of}
use Rattle.heaps.specs.RuleTests.{leaks, oldest}
use Rattle.trails.proofs.levels.first_leak.Given as goal

abbrev pub invariant-loop-place : goal.invariant-loop-place
invariant-loop-place g l = (p : ℕ) → p < l.place → leaks (tables_of l.memory).heap (tables_of l.memory).trail (oldest (tables_of l.memory) p) ≡ false
