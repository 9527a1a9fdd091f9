use Rattle.std.proofs.Common.{sym, ◌∙◌}
use Rattle.tables.specs.Tables.{used}
use Rattle.tables.specs.Views.{tables_of}
use Rattle.heaps.specs.Leads.{heap_of}
use Rattle.heaps.specs.RuleTests.{on_cycle}
use Rattle.heaps.proofs.RuleTestsCycles.{cycle_decided}
use Rattle.heaps.proofs.Searches.{lowest_found, lowest_none}
use Rattle.cycles.specs.Works.{rank_of}
use Rattle.cycles.proofs.RankLaws.{rises_falls, none_before}
use Rattle.cycles.proofs.first.first_on_cycle.Goals as goal

pub returns-in_err-first : goal.returns-in_err-first
returns-in_err-first c =
    let t = tables_of c.args.memory.now in
    let rank = rank_of c.rank_cells.new.self in
    let rises = c.in_err-first.ensures in
    c.from_residual.ensures ∙ sym (lowest_none (on_cycle (heap_of t.heap) (used t)) (used t) (none_before t rank (used t) (rises_falls t.heap rank rises) rises))

pub returns-then-comes_round : goal.returns-then-comes_round
returns-then-comes_round c =
    let t = tables_of c.args.memory.now in
    let rank = rank_of c.rank_cells.new.self in
    let first = c.in_ok-first.first in
    sym (lowest_found (on_cycle (heap_of t.heap) (used t)) (used t) first c.in_ok-first.ensures.0
    ((cycle_decided t first).1 (c.comes_round.ensures c.if-comes_round.true))
    (none_before t rank first (c.none_falls-certain.ensures c.if-certain.true) c.in_ok-first.ensures.1))
