use Rattle.std.proofs.Common.{◌≡◌, ℕ, List, [], subst, arith, Some, None}
use Rattle.tables.specs.Tables.{Tables}
use Rattle.tables.specs.Views.{tables_of}
use Rattle.unifying.specs.Merging.{finished}
use Rattle.unifying.specs.Bindings.{Stepped}
use Rattle.unifying.specs.Frames.{pairs}
use Rattle.unifying.specs.Works.{merges_in}
use Rattle.classes.proofs.ClassTables.{merges_few}
use Rattle.unifying.proofs.WalkSteps.{pairs_inside, drawn_none, drawn_keeps, drawn_fewer, turn_on, turn_off, turn_less, from_start}
use Rattle.unifying.proofs.UnifyWalk.{unifying, stepped_on}
use Rattle.unifying.proofs.walking.walk.Goals as goal

-- from no bindings on

bare : (t u : Tables) (bs cs : List ℕ) → bs ≡ [] → Stepped t bs u cs → Stepped t [] u cs
bare t u bs cs none-bound s = subst (λ xs. Stepped t xs u cs) none-bound s

pub next-requires : goal.next-requires
next-requires c = pairs_inside (tables_of c.loop-i.memory) c.loop-i.invariant.1.stands (pairs c.loop-i.work.frames) c.loop-i.invariant.0.keep

pub advance-requires-in-Some : goal.advance-requires-in-Some
advance-requires-in-Some c =
    let kept = drawn_keeps (tables_of c.loop-i.memory) c.in-Some.i c.in-Some.j c.in-Some.is c.next.ensures c.loop-i.invariant.0.keep in
    record {
      stands = c.loop-i.invariant.1.stands;
      left = kept.0.0;
      right = kept.0.1;
      room = omega (arith, drawn_fewer c.next.ensures, c.loop-i.invariant.0.few);
      noted = c.loop-i.invariant.1.noted;
    }

pub returns-then-not-advance-2 : goal.returns-then-not-advance-2
returns-then-not-advance-2 c =
    let e = c.advance.ensures in
    let f = c.advance-in-Some.ensures in
    let off = turn_off unifying _ _ _ _ _ _ _ _ _ _ _ _ _ c.loop-i.invariant.0 _ c.in-Some.is c.next.ensures f.advanced c.if-not-advance-2.true in
    record {
      run = from_start _ _ _ _ c.requires.idle.unmerged c.requires.idle.done e.advanced (e.advanced.on c.if-not-advance.false None off);
      stepped = bare _ _ _ _ c.requires.idle.unbound (stepped_on e.stepped (stepped_on c.loop-i.invariant.1 f.stepped));
    }

pub loop-i-smaller : goal.loop-i-smaller
loop-i-smaller c =
    let f = c.advance-in-Some.ensures in
    turn_less unifying _ _ _ _ _ _ _ _ _ _ _ _ _ c.loop-i.invariant.0 _ c.in-Some.is c.next.ensures f.advanced
    (merges_few c.loop-i.work.classes) (merges_few c.advance-in-Some.new.work.classes)

pub loop-i-preserved : goal.loop-i-preserved
loop-i-preserved c =
    let f = c.advance-in-Some.ensures in (
      turn_on unifying _ _ _ _ _ _ _ _ _ _ _ _ _ c.loop-i.invariant.0 _ c.in-Some.is c.next.ensures f.advanced c.if-not-advance-2.false,
      stepped_on c.loop-i.invariant.1 f.stepped,
    )

pub returns : goal.returns
returns c =
    let e = c.advance.ensures in
    let u = tables_of c.loop-i.memory in
    let run = c.loop-i.invariant.0.run (Some u) (drawn_none unifying u (merges_in c.loop-i.work) (Some u) c.in_default.is c.next.ensures finished) in
    record {
      run = from_start _ _ _ _ c.requires.idle.unmerged c.requires.idle.done e.advanced (e.advanced.on c.if-not-advance.false (Some u) run);
      stepped = bare _ _ _ _ c.requires.idle.unbound (stepped_on e.stepped c.loop-i.invariant.1);
    }
