use Rattle.std.proofs.Common.{arith}
use Rattle.tables.specs.Stacks.{listed}
use Rattle.tables.specs.Views.{tables_of}
use Rattle.unifying.proofs.Bindings.{noted_room, stepped_bind}
use Rattle.unifying.proofs.meeting.note_binding.Goals as goal

pub push-requires : goal.push-requires
push-requires c =
    (omega arith, noted_room (tables_of c.args.memory.now) (listed c.args.bound.now) c.args.x c.args.word c.requires.stands c.requires.bindable c.requires.noted)

pub returns : goal.returns
returns c =
    record {
      tables = c.bind.ensures;
      stepped =
          stepped_bind (tables_of c.args.memory.now) (listed c.args.bound.now) c.args.x c.args.word c.requires.stands c.requires.bindable c.requires.noted c.requires.range
          (tables_of c.bind.new.memory) (listed c.push.new.self) c.bind.ensures c.push.ensures;
    }
