use Rattle.std.proofs.Common.{arith, below_more, subst}
use Rattle.tables.specs.Tables.{choice_at}
use Rattle.tables.specs.Views.{tables_of}
use Rattle.marking.specs.Marking.{WordsLead}
use Rattle.marking_tests.proofs.Insides.{roots_inside}
use Rattle.marking_tests.proofs.inside.inside.Goals as goal

pub loop-k-preserved : goal.loop-k-preserved
loop-k-preserved c =
    below_more (λ n. WordsLead (choice_at (tables_of c.args.memory.now) n).saved) c.loop-k.k c.loop-k.invariant
    (subst WordsLead c.saved_registers.ensures (c.words_inside-in-loop-k.ensures c.if-not-words_inside-2.false))

pub returns : goal.returns
returns c e = (
  c.cells_inside.ensures c.if-not-cells_inside.false,
  roots_inside (tables_of c.args.memory.now) (subst WordsLead c.registers.ensures (c.words_inside.ensures c.if-not-words_inside.false))
      (λ p low. c.loop-k.invariant p (omega (arith, low, c.loop-k-test.false, c.depth-k-end.ensures))),
)
