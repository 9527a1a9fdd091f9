use Rattle.std.proofs.Common.{◌≡◌, ◌<◌, rules}
use Rattle.tables.specs.Views.{tables_of}
use Rattle.unifying.proofs.Bindings.{meet_lower, meet_higher, meet_itself}
use Rattle.unifying.proofs.meeting.meet_variables.Goals as goal

pub returns-in-Less-clause-met : goal.returns-in-Less-clause-met
returns-in-Less-clause-met c =
    let low : c.args.x < c.args.y = search rules in
    meet_lower (tables_of c.args.memory.now) c.args.x c.args.y _ low c.note_binding.ensures.tables

pub returns-in-Greater-clause-met : goal.returns-in-Greater-clause-met
returns-in-Greater-clause-met c =
    let low : c.args.y < c.args.x = search rules in
    meet_higher (tables_of c.args.memory.now) c.args.x c.args.y _ low c.note_binding-in-Greater.ensures.tables

pub returns-in-Equal-clause-met : goal.returns-in-Equal-clause-met
returns-in-Equal-clause-met c =
    let same : c.args.x ≡ c.args.y = search rules in
    meet_itself (tables_of c.args.memory.now) c.args.x c.args.y same
