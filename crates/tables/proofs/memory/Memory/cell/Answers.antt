use Rattle.std.proofs.Common.{◌<◌, length, sym, ap, ◌∙◌, arith}
use Rattle.std.proofs.lemmas.List.{get_or-map}
use Rattle.cells.specs.declared.cell.Cell.TheVariants.{Reference}
use Rattle.cells.specs.Cells.{cell_of}
use Rattle.tables.specs.Stacks.{listed}
use Rattle.tables.proofs.memory.Memory.cell.Goals as goal

pub returns-then-i-len : goal.returns-then-i-len
returns-then-i-len c =
    let words = listed c.args.self.now.heap in
    let inside : c.args.i < length words = omega arith in
    c.of.ensures ∙ ap cell_of (c.at.ensures 0) ∙ sym (get_or-map cell_of words c.args.i 0 (Reference c.args.i) inside)
