use Rattle.std.proofs.Common.{◌≡◌, ◌≤◌, length, get_or, ap, arith}
use Rattle.std.proofs.lemmas.List.{get_or_default}
use Rattle.cells.specs.declared.cell.Cell.TheVariants.{Reference, Atom}
use Rattle.tables.specs.Views.{tables_of}
use Rattle.tables.specs.Stacks.{listed}
use Rattle.heaps.specs.Leads.{heap_of}
use Rattle.marking.specs.Walks.{waiting}
use Rattle.marking.proofs.Walks.{underway_first}
use Rattle.marking.proofs.Words.{LedBelow, led_inside, noted_word}
use Rattle.marking.proofs.Marked.{marked_all}
use Rattle.marking.proofs.roots.mark_words.Goals as goal

pub follow-requires : goal.follow-requires
follow-requires g c =
    let ws = c.args.words.now in
    let i = c.loop-word.word-index in
    let is : get_or ws i (Reference 0) ≡ get_or ws i (Atom 0) = get_or_default ws i (Reference 0) (Atom 0) (omega arith) in
    record {
      at = omega arith;
      inside = λ k. led_inside ws i k _ is c.requires.words;
      room = omega (arith, c.loop-word.invariant.sum, ap length c.truncate.ensures);
    }

pub loop-word-preserved : goal.loop-word-preserved
loop-word-preserved g c =
    let ws = c.args.words.now in
    let i = c.loop-word.word-index in
    let is : get_or ws i (Reference 0) ≡ get_or ws i (Atom 0) = get_or_default ws i (Reference 0) (Atom 0) (omega arith) in
    noted_word ws i _ is c.loop-word.invariant c.follow.ensures

pub finish-requires : goal.finish-requires
finish-requires g c =
    record {
      inside = c.requires.cells;
      underway =
          underway_first (heap_of (tables_of c.args.memory.now).heap) (LedBelow c.args.words.now c.loop-word.word-index)
          (g.M.Marks.has c.args.marks.now) (listed c.truncate.new.self) (g.M.Marks.has c.loop-word.marks) (waiting c.loop-word.pending)
          c.requires.closed c.truncate.ensures c.loop-word.invariant;
    }

pub returns-clause-marked : goal.returns-clause-marked
returns-clause-marked g c =
    let ws = c.args.words.now in
    let few : length ws ≤ c.loop-word.word-index = omega arith in
    marked_all (heap_of (tables_of c.args.memory.now).heap) ws (g.M.Marks.has c.args.marks.now) (g.M.Marks.has c.loop-word.marks)
    (g.M.Marks.has c.finish.new.marks) (listed c.truncate.new.self) (waiting c.loop-word.pending) c.loop-word.word-index few c.requires.closed
    c.loop-word.invariant c.finish.ensures.grown c.finish.ensures.closed
