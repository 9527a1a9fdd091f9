use Rattle.std.proofs.Common.{ap}
use Rattle.tables.specs.Stacks.{listed}
use Rattle.tables.specs.Tables.{with_heap}
use Rattle.tables.specs.Views.{tables_of}
use Rattle.tables.proofs.Views.{cells_push}
use Rattle.tables.proofs.memory.Memory.push_cell.Goals as goal

pub returns : goal.returns
returns c =
    let m = c.args.self.now in
    ap (with_heap (tables_of m)) (cells_push c.word.result c.args.cell c.requires.1 c.word.ensures (listed m.heap) _ c.push.ensures)
