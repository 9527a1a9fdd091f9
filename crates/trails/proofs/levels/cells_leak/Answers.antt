use Rattle.std.proofs.Common.{rules, tests, arith, ◌≡◌, ℕ, cond, drop, subst}
use Rattle.cells.specs.declared.cell.Cell.TheVariants.{Reference}
use Rattle.tables.specs.Tables.{choice_at}
use Rattle.tables.specs.Views.{tables_of}
use Rattle.tables.proofs.Lengths.{used_fits}
use Rattle.heaps.specs.Leads.{heap_of}
use Rattle.heaps.specs.Levels.{seen_from}
use Rattle.heaps.specs.RuleTests.{leads_past}
use Rattle.trails.specs.Named.{Names}
use Rattle.trails.proofs.Named.{seen_same}
use Rattle.words.proofs.Ranges.{any_told}
use Rattle.trails.proofs.levels.cells_leak.Goals as goal

pub returns : goal.returns
returns g c =
    let m = c.args.memory.now in
    let t = tables_of m in
    let p = choice_at t c.args.point in
    let s = g.M.Marks.has c.name_from.new.undone in
    let named : Names s (drop p.trail_top t.trail) = subst (λ (k : ℕ). Names s (drop k t.trail)) c.trail_top.ensures c.name_from.ensures in
    let same : (i : ℕ) → cond (s i) (Reference i) (heap_of t.heap i) ≡ heap_of (seen_from p t.heap t.trail) i = seen_same t.heap (used_fits m) s (drop p.trail_top t.trail) named in
    any_told _ _ _ _ (λ i. leads_past p.heap_top i (heap_of (seen_from p t.heap t.trail) i)) 0 p.heap_top c.any.ensures.ran (omega arith) (omega (arith, c.heap_top-top.ensures))
    (λ x q k low high. rw (← same x) (search (rules, tests))) (λ x q k. (search (rules, tests), λ low high. rw (← same x) (search (rules, tests))))
