use Rattle.std.proofs.Common.{arith, below_more}
use Rattle.tables.specs.Views.{tables_of}
use Rattle.heaps.specs.Leads.{heap_of}
use Rattle.marking_tests.proofs.Insides.{Inside, inside_as, cells_inside}
use Rattle.marking_tests.proofs.inside.cells_inside.Goals as goal

pub loop-i-preserved : goal.loop-i-preserved
loop-i-preserved c =
    let h = heap_of (tables_of c.args.memory.now).heap in
    below_more (λ n. Inside n (h n)) c.loop-i.i c.loop-i.invariant
    (inside_as c.loop-i.i c.cell.result (h c.loop-i.i) c.cell.ensures (c.word_inside.ensures c.if-not-word_inside.false))

pub returns : goal.returns
returns c e = cells_inside (heap_of (tables_of c.args.memory.now).heap) (λ i low. c.loop-i.invariant i (omega (arith, c.loop-i-test.false)))
