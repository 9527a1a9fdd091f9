use Rattle.std.proofs.Common.{◌<◌, ◌≤◌, length, refl, ◌∙◌, arith, rules}
use Rattle.tables.specs.Views.{tables_of}
use Rattle.heaps.specs.Leads.{heap_of}
use Rattle.occurring.specs.Visits.{visited}
use Rattle.occurring.proofs.OccursWalk.{walked_first, walked_more, cell_used, cell_inside, walked_found, walked_all}
use Rattle.occurring.proofs.occurring.occurs.Goals as goal

pub returns-then-at-x : goal.returns-then-at-x
returns-then-at-x c =
    let t = tables_of c.args.memory.now in
    let first = walked_first (heap_of t.heap) c.args.word c.args.x (visited c.args.table.now) (visited c.follow.new.table) c.requires.empty c.follow.ensures in
    let vs = visited c.loop-place.seen.table.now in
    let lt : c.loop-place.place < length vs = omega (arith, c.loop-place-test.true, c.len.ensures.count) in
    record {
      answer =
          c.refers_to.ensures
          ∙ walked_found t c.requires.stands c.args.word c.requires.keeps c.args.x vs c.loop-place.place (c.loop-place.invariant.1 c.args.word first) c.at-at.result
          c.cell-held.result c.at-at.ensures c.cell-held.ensures lt c.if-at-x.true;
      blank = search rules;
      empty = search rules;
    }

pub follow-requires-in-loop-place : goal.follow-requires-in-loop-place
follow-requires-in-loop-place c =
    let t = tables_of c.args.memory.now in
    let first = walked_first (heap_of t.heap) c.args.word c.args.x (visited c.args.table.now) (visited c.follow.new.table) c.requires.empty c.follow.ensures in
    let vs = visited c.loop-place.seen.table.now in
    let walked = c.loop-place.invariant.1 c.args.word first in
    let lt : c.loop-place.place < length vs = omega (arith, c.loop-place-test.true, c.len.ensures.count) in
    let low = cell_used t c.requires.stands c.args.word c.requires.keeps c.args.x vs c.loop-place.place walked c.at-at.result c.at-at.ensures lt in
    record {
      at = omega (arith, low, c.requires.stands.1.cells);
      inside =
          cell_inside t c.requires.stands c.args.word c.requires.keeps c.args.x vs c.loop-place.place walked c.at-at.result c.cell-held.result c.at-at.ensures
          c.cell-held.ensures lt;
    }

pub loop-place-preserved : goal.loop-place-preserved
loop-place-preserved c =
    let t = tables_of c.args.memory.now in
    let vs = visited c.loop-place.seen.table.now in
    let lt : c.loop-place.place < length vs = omega (arith, c.loop-place-test.true, c.len.ensures.count) in (
      refl,
      λ w first.
          walked_more (heap_of t.heap) w c.args.x vs (visited c.follow-in-loop-place.new.table) c.loop-place.place c.at-at.result c.cell-held.result
          (c.loop-place.invariant.1 w first) lt c.at-at.ensures c.cell-held.ensures c.if-at-x.false c.follow-in-loop-place.ensures,
    )

pub returns : goal.returns
returns c =
    let t = tables_of c.args.memory.now in
    let first = walked_first (heap_of t.heap) c.args.word c.args.x (visited c.args.table.now) (visited c.follow.new.table) c.requires.empty c.follow.ensures in
    let vs = visited c.loop-place.seen.table.now in
    let past : length vs ≤ c.loop-place.place = omega (arith, c.loop-place-test.false, c.len.ensures.count) in
    record {
      answer = walked_all t c.requires.stands c.args.word c.requires.keeps c.args.x vs c.loop-place.place (c.loop-place.invariant.1 c.args.word first) past;
      blank = search rules;
      empty = search rules;
    }
