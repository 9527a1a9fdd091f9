use Rattle.std.proofs.Common.{refl, ap, ◌∙◌}
use Rattle.calls.specs.declared.Call.TheVariants.{Put, Hole}
use Rattle.weld_task.specs.declared.machine.Machine.{Machine}
use Rattle.weld_task.specs.Levels.{levels}
use Rattle.weld_task.proofs.LevelLaws.{levels_after}
use Rattle.weld_task.proofs.machine.Machine.fill.Goals.{in-Register, in-Variable}
use Rattle.weld_task.proofs.machine.Machine.fill.Goals as goal

pub returns-clause-levels : goal.returns-clause-levels
returns-clause-levels c =
    let s = c.args.self.now.store in
    let d = c.args.slip.draft in
    c.settle.ensures.levels ∙ elim c.match-part.branch [
      | in-Register w ↦ ap (λ (m : Machine). levels m.store) w.self-is ∙ levels_after (Put d w.in-Register.s) s w.put.new.self _ refl w.put.ensures.result
      | in-Variable w ↦ ap (λ (m : Machine). levels m.store) w.self-is ∙ levels_after (Hole d) s w.hole.new.self _ refl w.hole.ensures.result
    ]
