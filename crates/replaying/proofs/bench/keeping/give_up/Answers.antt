use Rattle.std.proofs.Common.{◌≡◌, ℕ, Option, ap, ◌∙◌, subst, arith}
use Rattle.calls.specs.declared.Answer.{Answer}
use Rattle.calls.specs.declared.Answer.TheVariants.{Nothing, Refused}
use Rattle.calls.specs.Steps.{State}
use Rattle.store.specs.declared.store.Slip.{Slip}
use Rattle.store.specs.Called.{state}
use Rattle.store.proofs.Keeping.{stands}
use Rattle.replaying.specs.Slips.{slip_of, Agrees}
use Rattle.replaying.proofs.SlipsAgree.{void_told}
use Rattle.replaying.proofs.bench.keeping.give_up.Goals as goal

pub unreachable-requires : goal.unreachable-requires
unreachable-requires c =
    let s = c.args.store.now in
    let agrees = subst (λ (o : Option Slip). Agrees (state s) (slip_of o)) c.in-Some.is c.requires in
    let told : Refused c.in-Err.field-0-0 ≡ Nothing =
    ap (λ (x : Answer × State). x.0) c.in-Err.ensures.result ∙ void_told (state s) c.in-Some.slip.draft agrees (stands s).1.cells in
    let z : ◌≡◌ {A = ℕ} 0 1 = cc in
    omega arith
