use Rattle.std.proofs.Common.{sym, ap, subst}
use Rattle.replaying.specs.declared.reply.Reply.{Reply}
use Rattle.replaying.specs.Slips.{Agrees}
use Rattle.replaying.specs.Benches.{BenchState, bench_of}
use Rattle.replaying.proofs.SlipsAgree.{agree_after}
use Rattle.replaying.proofs.bench.Bench.perform.Goals as goal

pub invariant_of-self : goal.invariant_of-self
invariant_of-self c =
    let b = c.args.self.now in
    let left = sym (ap (λ (x : Reply × BenchState). x.1) c.carry_out.ensures) in
    record { agrees = subst (λ (x : BenchState). Agrees x.state x.slip) left (agree_after c.args.request (bench_of b.store b.slip) b.agrees) }
