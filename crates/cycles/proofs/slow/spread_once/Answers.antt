use Rattle.std.proofs.Common.{◌≡◌, ℕ, ◌+◌, Bool, sym, ap, ◌∙◌, subst, arith}
use Rattle.tables.specs.Tables.{used}
use Rattle.tables.specs.Views.{tables_of}
use Rattle.heaps.specs.Leads.{heap_of}
use Rattle.cycles.specs.Spans.{Round}
use Rattle.tables.proofs.Lengths.{used_fits}
use Rattle.cycles.proofs.GatherLaws.{round_skip, round_mark}
use Rattle.cycles.proofs.slow.spread_once.Goals as goal
use Rattle.cycles.proofs.slow.spread_once.Goals.{then-joins, else-joins}

pub loop-i-preserved : goal.loop-i-preserved
loop-i-preserved g c =
    let m = c.args.memory.now in
    let h = heap_of (tables_of m).heap in
    let n = used (tables_of m) in
    let has = g.M.Marks.has in
    elim c.if-joins.branch [
      | then-joins w ↦ (
        round_mark h n c.loop-i.i (omega (arith, used_fits m)) (has c.args.members.now) (has c.loop-i.members) (has c.if-joins.members)
            (ap has w.members-is ∙ w.mark.ensures) c.loop-i.invariant.0 (c.joins.ensures.found w.if-joins.true),
        λ e. absurd (cc),
      )
      | else-joins w ↦ (
        subst (λ (u : ℕ → Bool). Round h (c.loop-i.i + 1) n (has c.args.members.now) u) (ap has (sym w.members-is))
            (round_skip h n c.loop-i.i (has c.args.members.now) (has c.loop-i.members) c.loop-i.invariant.0 (c.joins.ensures.missed w.if-joins.false)),
        λ e. ap has w.members-is ∙ c.loop-i.invariant.1 (sym w.more-is ∙ e),
      )
    ]

pub returns : goal.returns
returns g c =
    let m = c.args.memory.now in
    let end : c.loop-i.i ≡ used (tables_of m) = omega (arith, c.used-i-end.ensures) in
    record {
      round = subst (λ (k : ℕ). Round (heap_of (tables_of m).heap) k (used (tables_of m)) (g.M.Marks.has c.args.members.now) (g.M.Marks.has c.loop-i.members)) end c.loop-i.invariant.0;
      same = c.loop-i.invariant.1;
    }
