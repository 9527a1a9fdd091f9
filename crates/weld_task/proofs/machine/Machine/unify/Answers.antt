use Rattle.calls.specs.declared.Call.TheVariants.{Unify}
use Rattle.std.proofs.Common.{refl, rules}
use Rattle.store.specs.Called.{told, agrees}
use Rattle.weld_task.proofs.LevelLaws.{base_after}
use Rattle.weld_task.proofs.machine.Machine.unify.Goals as goal

pub returns-clause-kept : goal.returns-clause-kept
returns-clause-kept c = base_after (Unify c.args.s c.args.t) c.args.self.now.store c.call.new.self.store (told agrees c.call.result) refl refl (search rules)
