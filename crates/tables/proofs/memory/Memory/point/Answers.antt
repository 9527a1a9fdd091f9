use Rattle.std.proofs.Common.{◌-◌, ◌<◌, length, get_or, sym, ap, ◌∙◌, arith}
use Rattle.tables.specs.Stacks.{listed}
use Rattle.tables.specs.Tables.{no_choice}
use Rattle.tables.specs.Views.{choice_of}
use Rattle.tables.proofs.Views.{length_turned, turned_at}
use Rattle.tables.proofs.memory.Memory.point.Goals as goal

pub returns : goal.returns
returns c =
    let points = listed c.args.self.now.choices in
    let inside : c.args.k < length points = omega (arith, length_turned choice_of points, c.requires) in
    sym (turned_at choice_of points c.args.k no_choice c.at.result inside (λ e. c.at.ensures e ∙ ap (λ n. get_or points (n - 1 - c.args.k) e) c.len.ensures))
