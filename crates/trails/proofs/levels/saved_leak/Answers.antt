use Rattle.std.proofs.Common.{◌≡◌, true, false, rules, tests}
use Rattle.std.proofs.lemmas.Iterator.{cases_from_any, YieldsList-from_slice}
use Rattle.cells.specs.declared.cell.Cell.TheVariants.{Atom}
use Rattle.tables.specs.Tables.{choice_at}
use Rattle.tables.specs.Views.{tables_of}
use Rattle.heaps.specs.RuleTests.{leads_past}
use Rattle.trails.proofs.AnyOf.{any_told_of}
use Rattle.trails.proofs.levels.saved_leak.Goals as goal

pub returns : goal.returns
returns c =
    let p = choice_at (tables_of c.args.memory.now) c.args.point in
    any_told_of (leads_past p.heap_top 0) p.saved (Atom 0) c.any.result
    (cases_from_any _ _ _ (λ x. leads_past p.heap_top 0 x ≡ true) (λ x. leads_past p.heap_top 0 x ≡ false) c.any.ensures.ran
    (YieldsList-from_slice p.saved cc) (λ x q k. search (rules, tests)) (λ x q k. search (rules, tests)))
