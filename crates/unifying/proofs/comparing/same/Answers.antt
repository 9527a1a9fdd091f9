use Rattle.std.proofs.Common.{true, false, arith}
use Rattle.tables.specs.Views.{tables_of}
use Rattle.unifying.specs.Merging.{finished}
use Rattle.unifying.specs.Frames.{pairs}
use Rattle.classes.specs.Classes.{merges}
use Rattle.unifying.proofs.SameRuns.{same_right}
use Rattle.classes.proofs.ClassTables.{merges_few}
use Rattle.unifying.proofs.WalkSteps.{pairs_inside, drawn_none, drawn_keeps, drawn_fewer, turn_on, turn_off, turn_less, from_start}
use Rattle.unifying.proofs.CompareSteps.{comparing}
use Rattle.unifying.proofs.comparing.same.Goals as goal

pub returns-then-not-compare : goal.returns-then-not-compare
returns-then-not-compare c =
    let t = tables_of c.args.memory.now in
    let e = c.compare.ensures in
    same_right t c.args.left c.args.right false c.requires.stands c.requires.left c.requires.right
    (from_start t t _ _ c.clear.ensures c.clear-2.ensures e (e.off c.if-not-compare.true))

pub next-requires : goal.next-requires
next-requires c = pairs_inside (tables_of c.args.memory.now) c.requires.stands (pairs c.loop-i.frames) c.loop-i.invariant.keep

pub compare-requires-in-Some : goal.compare-requires-in-Some
compare-requires-in-Some c =
    let kept = drawn_keeps (tables_of c.args.memory.now) c.in-Some.i c.in-Some.j c.in-Some.is c.next.ensures c.loop-i.invariant.keep in
    record {
      stands = c.requires.stands;
      left = kept.0.0;
      right = kept.0.1;
      room = omega (arith, drawn_fewer c.next.ensures, c.loop-i.invariant.few);
    }

pub returns-then-not-compare-2 : goal.returns-then-not-compare-2
returns-then-not-compare-2 c =
    let t = tables_of c.args.memory.now in
    let e = c.compare.ensures in
    let off = turn_off comparing _ _ _ _ _ _ _ _ _ _ _ _ _ c.loop-i.invariant _ c.in-Some.is c.next.ensures c.compare-in-Some.ensures c.if-not-compare-2.true in
    same_right t c.args.left c.args.right false c.requires.stands c.requires.left c.requires.right
    (from_start t t _ _ c.clear.ensures c.clear-2.ensures e (e.on c.if-not-compare.false false off))

pub loop-i-smaller : goal.loop-i-smaller
loop-i-smaller c =
    turn_less comparing _ _ _ _ _ _ _ _ _ _ _ _ _ c.loop-i.invariant _ c.in-Some.is c.next.ensures c.compare-in-Some.ensures
    (merges_few c.loop-i.classes) (merges_few c.compare-in-Some.new.classes)

pub loop-i-preserved : goal.loop-i-preserved
loop-i-preserved c =
    turn_on comparing _ _ _ _ _ _ _ _ _ _ _ _ _ c.loop-i.invariant _ c.in-Some.is c.next.ensures c.compare-in-Some.ensures c.if-not-compare-2.false

pub returns : goal.returns
returns c =
    let t = tables_of c.args.memory.now in
    let e = c.compare.ensures in
    let run = c.loop-i.invariant.run true (drawn_none comparing t (merges c.loop-i.classes) true c.in_default.is c.next.ensures finished) in
    same_right t c.args.left c.args.right true c.requires.stands c.requires.left c.requires.right
    (from_start t t _ _ c.clear.ensures c.clear-2.ensures e (e.on c.if-not-compare.false true run))
