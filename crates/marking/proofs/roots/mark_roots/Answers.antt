use Rattle.std.proofs.Common.{◌<◌, ◌≤◌, length, sym, subst, arith}
use Rattle.tables.specs.Views.{tables_of}
use Rattle.heaps.specs.Leads.{heap_of}
use Rattle.marking.specs.Marking.{WordsLead, MarkedAll}
use Rattle.marking.proofs.RootsMarked.{closed_none, registers_lead, saved_lead, marked_none, marked_point, marked_points, marks_reached}
use Rattle.marking.proofs.roots.mark_roots.Goals as goal

pub mark_words-requires : goal.mark_words-requires
mark_words-requires g c =
    let t = tables_of c.args.memory.now in
    record {
      cells = c.requires.cells;
      words = subst WordsLead (sym c.registers.ensures) (registers_lead t c.requires.words);
      closed = closed_none (heap_of t.heap) (g.M.Marks.has c.clear.new.self) c.clear.ensures;
    }

pub loop-k-init : goal.loop-k-init
loop-k-init g c =
    let t = tables_of c.args.memory.now in (
      marked_none (heap_of t.heap) t.choices (g.M.Marks.has c.mark_words.new.marks),
      c.mark_words.ensures.closed,
      c.mark_words.ensures.empty,
    )

pub mark_words-requires-in-loop-k : goal.mark_words-requires-in-loop-k
mark_words-requires-in-loop-k g c =
    let t = tables_of c.args.memory.now in
    let low : c.loop-k.k < length t.choices = omega (arith, c.loop-k-test.true, c.depth-k-end.ensures) in
    record {
      cells = c.requires.cells;
      words = subst WordsLead (sym c.saved_registers.ensures) (saved_lead t c.loop-k.k low c.requires.words);
      closed = c.loop-k.invariant.1;
    }

pub loop-k-preserved : goal.loop-k-preserved
loop-k-preserved g c =
    let t = tables_of c.args.memory.now in
    let low : c.loop-k.k < length t.choices = omega (arith, c.loop-k-test.true, c.depth-k-end.ensures) in
    let s = g.M.Marks.has c.loop-k.marks in
    let u = g.M.Marks.has c.mark_words-in-loop-k.new.marks in (
      marked_point (heap_of t.heap) t.choices (g.M.Marks.has c.mark_words.new.marks) c.loop-k.k s u low c.loop-k.invariant.0
          (subst (λ ws. MarkedAll (heap_of t.heap) ws s u) c.saved_registers.ensures c.mark_words-in-loop-k.ensures.marked),
      c.mark_words-in-loop-k.ensures.closed,
      c.mark_words-in-loop-k.ensures.empty,
    )

pub returns-clause-marked : goal.returns-clause-marked
returns-clause-marked g c =
    let t = tables_of c.args.memory.now in
    let cleared = g.M.Marks.has c.clear.new.self in
    let registered = g.M.Marks.has c.mark_words.new.marks in
    let all : length t.choices ≤ c.loop-k.k = omega (arith, c.loop-k-test.false, c.depth-k-end.ensures) in
    marks_reached t cleared registered (g.M.Marks.has c.loop-k.marks) c.clear.ensures
    (subst (λ ws. MarkedAll (heap_of t.heap) ws cleared registered) c.registers.ensures c.mark_words.ensures.marked)
    (marked_points (heap_of t.heap) t.choices registered c.loop-k.k (g.M.Marks.has c.loop-k.marks) all c.loop-k.invariant.0)
