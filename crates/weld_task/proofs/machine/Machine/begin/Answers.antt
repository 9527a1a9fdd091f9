use Rattle.calls.specs.declared.Call.TheVariants.{Start}
use Rattle.std.proofs.Common.{refl}
use Rattle.weld_task.proofs.SlipLaws.{begun}
use Rattle.weld_task.proofs.LevelLaws.{levels_after}
use Rattle.weld_task.proofs.machine.Machine.begin.Goals as goal

pub returns-clause-begun : goal.returns-clause-begun
returns-clause-begun c = begun c.args.name c.args.arity c.args.self.now.store c.start-result.new.self c.start-result.result c.start-result.ensures.result

pub returns-clause-levels : goal.returns-clause-levels
returns-clause-levels c = levels_after (Start c.args.name c.args.arity) c.args.self.now.store c.start-result.new.self _ refl c.start-result.ensures.result
