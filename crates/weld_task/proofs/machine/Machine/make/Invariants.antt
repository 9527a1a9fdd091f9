use Rattle.std.proofs.Common.{◌≡◌, None}
use Rattle.weld_task.specs.Slips.{half_in, Held}
use Rattle.weld_task.specs.Levels.{levels}
use Rattle.weld_task.proofs.machine.Machine.make.Given as goal

abbrev pub invariant-loop-part : goal.invariant-loop-part
invariant-loop-part l = Held l.self.store l.slip × (half_in l.fn.self.store ≡ None) × (levels l.self.store ≡ levels l.fn.self.store)
