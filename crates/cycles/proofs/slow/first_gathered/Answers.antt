use Rattle.std.proofs.Common.{sym, ◌∙◌, arith}
use Rattle.tables.specs.Tables.{used}
use Rattle.tables.specs.Views.{tables_of}
use Rattle.heaps.specs.Leads.{heap_of}
use Rattle.heaps.specs.RuleTests.{on_cycle}
use Rattle.heaps.proofs.Searches.{lowest_found, lowest_none}
use Rattle.cycles.proofs.slow.first_gathered.Goals as goal

pub returns-then-lies_on_cycle : goal.returns-then-lies_on_cycle
returns-then-lies_on_cycle g c =
    let t = tables_of c.args.memory.now in
    sym (lowest_found (on_cycle (heap_of t.heap) (used t)) (used t) c.loop-cell.cell (omega (arith, c.used-cell-end.ensures))
    (sym c.lies_on_cycle.ensures ∙ c.if-lies_on_cycle.true) c.loop-cell.invariant)

pub returns : goal.returns
returns g c =
    let t = tables_of c.args.memory.now in
    sym (lowest_none (on_cycle (heap_of t.heap) (used t)) (used t) (λ i lt. c.loop-cell.invariant i (omega (arith, c.used-cell-end.ensures))))
