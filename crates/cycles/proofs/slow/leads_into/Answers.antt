use Rattle.std.proofs.Common.{◌≡◌, true, false, rules, tests}
use Rattle.words.proofs.Ranges.{any_in_range}
use Rattle.cycles.proofs.slow.leads_into.Goals as goal

pub returns : goal.returns
returns g c =
    let s = g.M.Marks.has c.args.members.now in
    let any = any_in_range _ _ _ _ (λ k. s k ≡ true) (λ k. s k ≡ false) c.any.ensures.ran (λ x q k. search (rules, tests)) (λ x q k. search (rules, tests)) in
    record {
      found = λ e. let k = any.0 e in (k.0, (((c.leads.ensures.spans k.0).0 (k.1, k.2)).0, k.3));
      missed = λ e j l lt. let b = (c.leads.ensures.spans j).1 (l, lt) in any.1 e j b.0 b.1;
    }
