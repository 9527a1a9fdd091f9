use Rattle.std.proofs.Common.{◌≡◌, suc, ◌+◌, ◌-◌, ap, ◌∙◌, ap₂, arith}
use Rattle.occurring.specs.Visits.{visited, with_visit, visit_all}
use Rattle.occurring.proofs.VisitLaws.{all_more}
use Rattle.occurring.proofs.occurring.follow.Goals as goal

pub loop-n-preserved : goal.loop-n-preserved
loop-n-preserved c =
    let start = c.leads-start.result.0 in
    let n = c.loop-n.n in
    let vs = visited c.args.table.now in
    let at : n ≡ start + (n - start) = omega (arith, c.loop-n.auto.n) in
    let count : suc (n - start) ≡ n + 1 - start = omega (arith, c.loop-n.auto.n) in
    c.visit.ensures ∙ ap₂ with_visit c.loop-n.invariant at ∙ all_more vs start (n - start) ∙ ap (visit_all vs start) count
