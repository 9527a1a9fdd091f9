use Rattle.calls.specs.declared.Call.TheVariants.{Void}
use Rattle.std.proofs.Common.{refl}
use Rattle.weld_task.proofs.SlipLaws.{void_taken}
use Rattle.weld_task.proofs.LevelLaws.{levels_after}
use Rattle.weld_task.proofs.machine.Machine.give_up.Goals as goal

pub unreachable-requires : goal.unreachable-requires
unreachable-requires c = void_taken c.args.self.now.store c.args.slip _ c.in-Err.field-0.0 c.requires c.in-Err.ensures.result

pub returns-clause-levels : goal.returns-clause-levels
returns-clause-levels c = levels_after (Void c.args.slip.draft) c.args.self.now.store c.void.new.self _ refl c.void.ensures.result
