use Rattle.std.proofs.Common.{rules}
use Rattle.weld_task.proofs.BackLaws.{went_back}
use Rattle.weld_task.proofs.machine.Machine.back.Goals as goal

pub returns-clause-back : goal.returns-clause-back
returns-clause-back c = went_back c.args.self.now.store _ _ _ c.last.ensures.result c.last.ensures.half (search rules)
