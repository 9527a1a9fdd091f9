use Rattle.std.proofs.Common.{◌≡◌, ℕ, suc, ◌+◌, Bool, sym, refl, subst, arith}
use Rattle.marks.specs.Sets.{none}
use Rattle.tables.specs.Tables.{used}
use Rattle.tables.specs.Views.{tables_of}
use Rattle.heaps.specs.Leads.{heap_of}
use Rattle.cycles.specs.Spans.{HasWithin, Round}
use Rattle.tables.proofs.Lengths.{used_fits}
use Rattle.cycles.proofs.GatherLaws.{gather_first, within_more, within_all}
use Rattle.cycles.proofs.slow.gather.Goals as goal

pub loop-turn-init : goal.loop-turn-init
loop-turn-init g c =
    gather_first (tables_of c.args.memory.now).heap c.args.cell c.requires none
    (g.M.Marks.has c.clear.new.self) (g.M.Marks.has c.mark.new.self) (λ i. refl) (omega (arith, used_fits c.args.memory.now)) c.clear.ensures c.mark.ensures

pub loop-turn-preserved : goal.loop-turn-preserved
loop-turn-preserved g c =
    let cells = (tables_of c.args.memory.now).heap in
    let s = g.M.Marks.has c.loop-turn.members in
    let t = g.M.Marks.has c.spread_once.new.members in
    let next : suc c.loop-turn._turn ≡ c.loop-turn._turn + 1 = omega arith in (
      c.spread_once.ensures.round.sound c.args.cell c.loop-turn.invariant.0,
      subst (λ (k : ℕ). HasWithin (heap_of cells) c.args.cell k t) next
          (within_more cells c.args.cell c.requires c.loop-turn._turn s t c.loop-turn.invariant.0 c.loop-turn.invariant.1 c.spread_once.ensures.round),
    )

pub returns-then-not-spread_once : goal.returns-then-not-spread_once
returns-then-not-spread_once g c =
    let cells = (tables_of c.args.memory.now).heap in
    let n = used (tables_of c.args.memory.now) in
    let s = g.M.Marks.has c.loop-turn.members in
    let same = c.spread_once.ensures.same c.if-not-spread_once.true in
    record {
      sound = c.spread_once.ensures.round.sound c.args.cell c.loop-turn.invariant.0;
      whole = subst (λ (u : ℕ → Bool). HasWithin (heap_of cells) c.args.cell n u) (sym same)
          (within_all cells c.args.cell c.requires c.loop-turn._turn s c.loop-turn.invariant.0 c.loop-turn.invariant.1
          (subst (λ (u : ℕ → Bool). Round (heap_of cells) n n s u) same c.spread_once.ensures.round) n);
    }

pub returns : goal.returns
returns g c =
    let cells = (tables_of c.args.memory.now).heap in
    let end : c.loop-turn._turn ≡ used (tables_of c.args.memory.now) = omega (arith, c.used-turn-end.ensures) in
    record {
      sound = c.loop-turn.invariant.0;
      whole = subst (λ (k : ℕ). HasWithin (heap_of cells) c.args.cell k (g.M.Marks.has c.loop-turn.members)) end c.loop-turn.invariant.1;
    }
