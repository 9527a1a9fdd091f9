use Rattle.std.proofs.Common.{ℕ, subst, inr}
use Rattle.tables.specs.Views.{tables_of}
use Rattle.heaps.specs.Leads.{heap_of, Way}
use Rattle.cycles.proofs.RankLaws.{way_before}
use Rattle.cycles.proofs.certificate.comes_round.Goals as goal

pub loop-turn-preserved : goal.loop-turn-preserved
loop-turn-preserved c = inr (way_before (heap_of (tables_of c.args.memory.now).heap) (c.leads_to.ensures c.if-not-leads_to.false) c.loop-turn.invariant)

pub returns-then-before-cell : goal.returns-then-before-cell
returns-then-before-cell c e =
    subst (λ (x : ℕ). Way (heap_of (tables_of c.args.memory.now).heap) x c.args.cell) c.if-before-cell.true
    (way_before (heap_of (tables_of c.args.memory.now).heap) (c.leads_to.ensures c.if-not-leads_to.false) c.loop-turn.invariant)
