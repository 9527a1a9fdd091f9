use Rattle.tables.specs.Views.{tables_of}
use Rattle.cycles.proofs.GatherLaws.{cycle_told}
use Rattle.cycles.proofs.slow.lies_on_cycle.Goals as goal

pub returns : goal.returns
returns g c =
    cycle_told (tables_of c.args.memory.now) c.args.cell c.requires (g.M.Marks.has c.gather.new.members)
    c.gather.ensures.sound c.gather.ensures.whole c.leads_into.result c.leads_into.ensures.found c.leads_into.ensures.missed
