use Rattle.std.proofs.Common.{◌≡◌}
use Rattle.weld_task.specs.Levels.{base}
use Rattle.weld_task.proofs.machine.Machine.fits.Given as goal

abbrev pub invariant-loop-i : goal.invariant-loop-i
invariant-loop-i l = base l.self.store ≡ base l.initial.self.store
