use Rattle.std.proofs.Common.{◌≡◌, ◌<◌, true, [], ◌∷◌, ◌++◌, length, sym, ap, ◌∙◌, subst, ⊎_elim, arith, length-append}
use Rattle.std.proofs.lemmas.Bool.{cases_lt, both_ways}
use Rattle.tables.specs.Views.{tables_of}
use Rattle.tables.specs.Stacks.{listed}
use Rattle.heaps.specs.Lists.{Among, here}
use Rattle.heaps.specs.Leads.{heap_of}
use Rattle.marking.specs.Walks.{waiting}
use Rattle.marking.proofs.Counts.{count_le}
use Rattle.marking.proofs.Members.{among_right}
use Rattle.marking.proofs.Walks.{word_inside, underway_look, grown_look, fewer, grown_none, grown_then}
use Rattle.marking.proofs.walk.finish.Goals as goal

pub loop-at-init : goal.loop-at-init
loop-at-init g c = (c.requires.underway, grown_none (heap_of (tables_of c.args.memory.now).heap) (g.M.Marks.has c.args.marks.now))

pub follow-requires : goal.follow-requires
follow-requires g c =
    let h = heap_of (tables_of c.args.memory.now).heap in
    let n = c.in-Some.at in
    let s = g.M.Marks.has c.loop-at.marks in
    let p = waiting c.loop-at.pending in
    let q = listed c.pop.new.self in
    let popped : p ≡ q ++ (n ∷ []) = c.in-Some.ensures.items in
    let marked : s n ≡ true = c.loop-at.invariant.0.members n (subst (Among n) (sym popped) (among_right q here)) in
    let low : n < 4096 = ⊎_elim (λ (l : n < 4096). l) (λ l. absurd (both_ways (s n) (g.met.M.Marks.within c.loop-at.marks n l) marked)) (cases_lt n 4096) in
    record {
      at = low;
      inside = word_inside h c.requires.inside n c.cell-word.result c.cell-word.ensures low;
      room = omega (arith, c.loop-at.invariant.0.room, ap length popped ∙ length-append q (n ∷ []));
    }

pub loop-at-smaller : goal.loop-at-smaller
loop-at-smaller g c =
    let h = heap_of (tables_of c.args.memory.now).heap in
    let t = g.M.Marks.has c.follow.new.marks in
    let less = fewer h (g.M.Marks.has c.loop-at.marks) (waiting c.loop-at.pending) c.in-Some.at c.cell-word.result (listed c.pop.new.self) t (waiting c.follow.new.pending)
    c.loop-at.invariant.0 c.in-Some.ensures.items c.cell-word.ensures c.follow.ensures in
    omega (arith, less, count_le t 4096)

pub loop-at-preserved : goal.loop-at-preserved
loop-at-preserved g c =
    let h = heap_of (tables_of c.args.memory.now).heap in
    let s = g.M.Marks.has c.loop-at.marks in
    let p = waiting c.loop-at.pending in
    let n = c.in-Some.at in
    let q = listed c.pop.new.self in
    let t = g.M.Marks.has c.follow.new.marks in
    let r = waiting c.follow.new.pending in
    let w = c.cell-word.result in
    let u = c.loop-at.invariant.0 in
    let popped : p ≡ q ++ (n ∷ []) = c.in-Some.ensures.items in (
      underway_look h s p n w q t r u popped c.cell-word.ensures c.follow.ensures,
      grown_then h c.loop-at.invariant.1 (grown_look h s p n w q t r u popped c.cell-word.ensures c.follow.ensures),
    )
