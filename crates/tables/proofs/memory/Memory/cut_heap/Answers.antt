use Rattle.std.proofs.Common.{ap}
use Rattle.cells.specs.Cells.{cell_of}
use Rattle.tables.specs.Stacks.{listed}
use Rattle.tables.specs.Tables.{with_heap}
use Rattle.tables.specs.Views.{tables_of}
use Rattle.tables.proofs.Views.{map_cut}
use Rattle.tables.proofs.memory.Memory.cut_heap.Goals as goal

pub returns : goal.returns
returns c =
    let m = c.args.self.now in
    ap (with_heap (tables_of m)) (map_cut cell_of (listed m.heap) _ c.args.n c.truncate.ensures)
