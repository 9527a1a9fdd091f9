use Rattle.std.proofs.Common.{sym, arith}
use Rattle.tables.specs.Views.{tables_of}
use Rattle.binding.proofs.BindRoom.{trail_room}
use Rattle.binding.proofs.binding.bind.Goals as goal

pub push_entry-requires : goal.push_entry-requires
push_entry-requires c =
    let t = tables_of c.args.memory.now in
    (trail_room t c.args.x c.args.word c.requires.stands c.requires.bindable c.requires.range (sym c.if-is_trailed.ensures), omega (arith, c.requires.bindable.in_use, c.requires.stands.1.cells))
