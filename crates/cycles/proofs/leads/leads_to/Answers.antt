use Rattle.std.proofs.Common.{arith, tests}
use Rattle.cycles.proofs.leads.leads_to.Goals as goal

pub returns : goal.returns
returns c e =
    let s = c.leads.ensures.spans c.args.j in grind (arith, tests)
