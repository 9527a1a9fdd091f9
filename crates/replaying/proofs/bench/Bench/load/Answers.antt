use Rattle.std.proofs.Common.{Ok, Option, sym, ap, ◌∙◌}
use Rattle.std.specs.Option.{is_some}
use Rattle.images.specs.Reading.{loaded}
use Rattle.store.specs.declared.store.Slip.{Slip}
use Rattle.store.specs.Called.{state}
use Rattle.replaying.specs.Slips.{slip_of}
use Rattle.replaying.specs.Benches.{bench_of}
use Rattle.replaying.proofs.SlipsAgree.{agree_from}
use Rattle.replaying.proofs.Reloading.{some_slip, loaded_free, loaded_bench}
use Rattle.replaying.proofs.bench.Bench.load.Goals as goal

pub invariant_of-self : goal.invariant_of-self
invariant_of-self c =
    let s = state c.in_ok-store.store in
    let gone = ap slip_of (sym c.take.ensures.after) in
    record { agrees = agree_from s (slip_of c.take.new.self) (loaded_free (loaded c.args.image.now) s c.in_ok-store.ensures.result ∙ gone) }

pub returns : goal.returns
returns c =
    let b = c.args.self.now in
    let s = state c.in_ok-store.store in
    let gone = ap slip_of c.take.ensures.after in
    let told = c.give_up-given_up.ensures ∙ ap (λ (o : Option Slip). is_some o) c.take.ensures.value ∙ some_slip b.slip in
    ap (λ slip. (Ok c.give_up-given_up.result, record { state = s; slip = slip })) gone
    ∙ loaded_bench (loaded c.args.image.now) s (bench_of b.store b.slip) c.give_up-given_up.result c.in_ok-store.ensures.result told
