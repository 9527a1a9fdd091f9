use Rattle.std.proofs.Common.{ℕ, Bool, length, sym, ◌∙◌, arith}
use Rattle.tables.specs.declared.memory.Memory.{Memory}
use Rattle.tables.specs.Views.{tables_of}
use Rattle.heaps.specs.RuleTests.{leaks, oldest}
use Rattle.heaps.proofs.Searches.{lowest_found, lowest_none}
use Rattle.trails.proofs.levels.first_leak.Goals as goal

abbrev leaky : Memory → ℕ → Bool
leaky m p = leaks (tables_of m).heap (tables_of m).trail (oldest (tables_of m) p)

pub returns-then-leaks : goal.returns-then-leaks
returns-then-leaks g c =
    let m = c.args.memory.now in
    sym (lowest_found (leaky m) (length (tables_of m).choices) c.loop-place.place (omega (arith, c.depth-place-end.ensures))
    (sym c.leaks.ensures ∙ c.if-leaks.true) c.loop-place.invariant)

pub returns : goal.returns
returns g c =
    let m = c.args.memory.now in
    sym (lowest_none (leaky m) (length (tables_of m).choices) (λ p lt. c.loop-place.invariant p (omega (arith, c.depth-place-end.ensures))))
