use mathlib.Core.Path.{◌∙◌, sym}
use Rattle.tables.specs.Views.{tables_of}
use Rattle.reading.proofs.ChainSteps.{chain_steps, chain_keeps}
use Rattle.reading.proofs.chains.end_of.Goals as goal

pub loop-at-smaller : goal.loop-at-smaller
loop-at-smaller c =
    (chain_steps (tables_of c.args.memory.now) c.requires.stands c.in-Reference.n c.loop-at.at c.cell-next.result c.in-Reference.is c.cell-next.ensures (sym c.if-refers_to.ensures)).1

pub loop-at-preserved : goal.loop-at-preserved
loop-at-preserved c =
    let t = tables_of c.args.memory.now in (
      (chain_steps t c.requires.stands c.in-Reference.n c.loop-at.at c.cell-next.result c.in-Reference.is c.cell-next.ensures (sym c.if-refers_to.ensures)).0 ∙ c.loop-at.invariant.0,
      chain_keeps t c.requires.stands c.in-Reference.n c.loop-at.at c.cell-next.result c.in-Reference.is c.cell-next.ensures c.loop-at.invariant.1,
    )
