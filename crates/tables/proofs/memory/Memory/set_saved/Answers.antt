use Rattle.std.proofs.Common.{refl, ap, ◌∙◌}
use Rattle.tables.specs.Tables.{Choice, set_choice, with_saved}
use Rattle.tables.specs.Views.{tables_of}
use Rattle.tables.proofs.Views.{cells_set}
use Rattle.tables.proofs.memory.Memory.set_saved.Goals as goal

pub returns : goal.returns
returns c =
    let point = c.point-point.result in
    let written = cells_set c.word.result c.args.cell c.requires.1.1 c.word.ensures point.saved _ c.args.r refl in
    c.set_point.ensures
    ∙ ap (set_choice (tables_of c.args.self.now) c.args.k)
    (ap (λ cells. record { saved = cells; heap_top = point.heap_top; trail_top = point.trail_top }) written
    ∙ ap (λ (p : Choice). with_saved p c.args.r c.args.cell) c.point-point.ensures)
