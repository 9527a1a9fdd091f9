use Rattle.std.proofs.Common.{◌<◌, ◌≤◌, rules, tests}
use Rattle.words.proofs.Ranges.{any_in_range}
use Rattle.cycles.specs.Works.{rank_of}
use Rattle.cycles.proofs.certificate.leads_below.Goals as goal

pub returns : goal.returns
returns c e j l lt =
    let w = c.args.walk.now in
    let b = (c.leads.ensures.spans j).1 (l, lt) in
    (any_in_range _ _ _ _ (λ k. rank_of w k < c.args.limit) (λ k. c.args.limit ≤ rank_of w k) c.any.ensures.ran
    (λ x q k. search (rules, tests)) (λ x q k. search (rules, tests))).1 e j b.0 b.1
