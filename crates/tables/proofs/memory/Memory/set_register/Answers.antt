use Rattle.std.proofs.Common.{refl, ap}
use Rattle.tables.specs.Tables.{with_registers}
use Rattle.tables.specs.Views.{tables_of}
use Rattle.tables.proofs.Views.{cells_set}
use Rattle.tables.proofs.memory.Memory.set_register.Goals as goal

pub returns : goal.returns
returns c =
    let m = c.args.self.now in
    ap (with_registers (tables_of m)) (cells_set c.word.result c.args.cell c.requires.1 c.word.ensures m.registers _ c.args.r refl)
