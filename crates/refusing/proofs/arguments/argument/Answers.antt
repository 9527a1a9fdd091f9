use Rattle.std.proofs.Common.{◌<◌, ◌≤◌, sym, ap, ◌∙◌, subst, rules}
use Rattle.cells.specs.Cells.{in_range}
use Rattle.tables.specs.Tables.{used}
use Rattle.tables.specs.Views.{tables_of}
use Rattle.heaps.specs.Spelling.{arity_of}
use Rattle.heaps.specs.LevelLaws.{Keeps}
use Rattle.heaps.proofs.KeptWords.{cell_ranged, keeps_register, arity_small}
use Rattle.refusing.proofs.ArgumentCells.{argument_none}
use Rattle.refusing.proofs.arguments.argument.Goals as goal

pub returns-then-s-gt7 : goal.returns-then-s-gt7
returns-then-s-gt7 c = sym (argument_none (tables_of c.args.memory.now) c.args.s c.args.i c.requires c.if-s-gt7.true)

pub end_of-end-requires : goal.end_of-end-requires
end_of-end-requires c =
    let t = tables_of c.args.memory.now in
    record { stands = c.requires; keeps = subst (Keeps t) (sym c.register.ensures) (keeps_register t c.args.s c.requires) }

pub overflow_add-result : goal.overflow_add-result
overflow_add-result c =
    let t = tables_of c.args.memory.now in
    let n = c.in-Pointer.n in
    let inside : n < used t = c.in-Pointer.ensures.keeps.0.0 in
    let room : used t ≤ 4096 = c.requires.1.cells in
    let few : arity_of c.cell.result ≤ 32 = arity_small c.cell.result (ap in_range c.cell.ensures ∙ cell_ranged t c.requires.1 n inside) in
    search rules
