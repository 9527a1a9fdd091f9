use Rattle.std.proofs.Common.{◌-◌, ◌<◌, length, ap, arith}
use Rattle.tables.specs.Stacks.{listed}
use Rattle.tables.specs.Tables.{with_choices}
use Rattle.tables.specs.Views.{tables_of, choice_of}
use Rattle.tables.proofs.Views.{length_turned, turned_set}
use Rattle.tables.proofs.memory.Memory.set_point.Goals as goal

pub returns : goal.returns
returns c =
    let m = c.args.self.now in
    let points = listed m.choices in
    let inside : c.args.k < length points = omega (arith, length_turned choice_of points, c.requires) in
    ap (with_choices (tables_of m)) (turned_set choice_of points _ c.args.k _ c.args.point inside (ap (λ n. n - 1 - c.args.k) c.len.ensures) c.set.ensures)
