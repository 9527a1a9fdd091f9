-- A store from an image has no structure half made; with it, and without a slip, a bench is what an image makes of it.
use Rattle.std.proofs.Common.{◌≡◌, ℕ, Bool, Some, None, Ok, Err, Option, Result, refl, ap, ap₂, arith}
use Rattle.tables.specs.Tables.{Tables}
use Rattle.std.specs.Option.{is_some}
use Rattle.calls.specs.Steps.{State, draft}
use Rattle.images.specs.declared.fault.LoadFault.{LoadFault}
use Rattle.store.specs.declared.store.Slip.{Slip}
use Rattle.store.specs.Loaded.{opened}
use Rattle.replaying.specs.Slips.{slip_of}
use Rattle.replaying.specs.Benches.{BenchState, reloaded}

pub some_slip : (o : Option Slip) → is_some o ≡ is_some (slip_of o)
some_slip None = refl
some_slip (Some slip) = refl

pub loaded_free : (o : Result Tables LoadFault) (s : State) → Ok s ≡ opened o → draft s ≡ None
loaded_free (Ok t) s e = let same : s ≡ record { tables = t; half = None } = cc in ap draft same
loaded_free (Err fault) s e = absurd (let z : ◌≡◌ {A = ℕ} 0 1 = cc in omega arith)

pub loaded_bench : (o : Result Tables LoadFault) (s : State) (b : BenchState) (held : Bool) → Ok s ≡ opened o → held ≡ is_some b.slip
    → (Ok held, record { state = s; slip = None }) ≡ reloaded o b
loaded_bench (Ok t) s b held e is =
    let same : s ≡ record { tables = t; half = None } = cc in
    ap₂ (λ (h : Bool) (x : State). (Ok h, record { state = x; slip = None })) is same
loaded_bench (Err fault) s b held e is = absurd (let z : ◌≡◌ {A = ℕ} 0 1 = cc in omega arith)
