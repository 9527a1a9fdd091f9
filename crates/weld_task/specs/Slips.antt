-- The half-made structure of a store, and the slip that belongs to it.
use Rattle.std.specs.Prelude.{◌≡◌, Ok, Err, Result, Option, Some, None}
use Rattle.cells.specs.declared.refusal.Refusal.{Refusal}
use Rattle.calls.specs.Steps.{Half, draft}
use Rattle.store.specs.declared.store.Slip.{Slip}
use Rattle.store.specs.declared.store.Store.{Store}
use Rattle.store.specs.Called.{state}

abbrev pub half_in : Store → Option Half
half_in s = (state s).half

-- the slip is that of the half-made structure
abbrev pub Held : Store → Slip → Type 0
Held s slip = draft (state s) ≡ Some slip.draft

-- A structure was begun, which none can be while another is half made; or start was refused.
abbrev pub Begun : Store → Store → Result Slip Refusal → Type 0
Begun s t (Ok slip) = Held t slip × (half_in s ≡ None)
Begun s t (Err why) = half_in t ≡ half_in s

-- An argument was written; or the structure was given up.
abbrev pub Filled : Store → Result Slip Refusal → Type 0
Filled t (Ok slip) = Held t slip
Filled t (Err why) = half_in t ≡ None

-- A call that spends a slip went well, and its value is handed on; or the structure was given up.
abbrev pub Settled : {T : Type 0} → Store → Result T (Refusal × Slip) → Store → Result T Refusal → Type 0
Settled s (Ok a) t r = (r ≡ Ok a) × (state t ≡ state s)
Settled s (Err e) t r = (r ≡ Err e.0) × (half_in t ≡ None)
