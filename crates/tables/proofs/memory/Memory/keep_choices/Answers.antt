use Rattle.std.proofs.Common.{ap}
use Rattle.tables.specs.Stacks.{listed}
use Rattle.tables.specs.Tables.{with_choices}
use Rattle.tables.specs.Views.{tables_of, choice_of}
use Rattle.tables.proofs.Views.{turned_cut}
use Rattle.tables.proofs.memory.Memory.keep_choices.Goals as goal

pub returns : goal.returns
returns c =
    let m = c.args.self.now in
    ap (with_choices (tables_of m)) (turned_cut choice_of (listed m.choices) _ c.args.k c.truncate.ensures)
