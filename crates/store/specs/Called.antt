-- What a call of a store answers and leaves.
use Rattle.std.specs.Prelude.{◌≡◌, Ok, Err, Result}
use Rattle.cells.specs.declared.refusal.Refusal.{Refusal}
use Rattle.tables.specs.Views.{tables_of}
use Rattle.calls.specs.declared.Call.{Call}
use Rattle.calls.specs.declared.Answer.{Answer}
use Rattle.calls.specs.declared.Answer.TheVariants.{Refused, Hands}
use Rattle.calls.specs.Steps.{State, step}
pub use Rattle.calls.specs.Told.{told, nothing, agrees}
use Rattle.store.specs.declared.store.Slip.{Slip}
use Rattle.store.specs.declared.store.Store.{Store}
use Rattle.refusing.specs.States.{state_of}

abbrev pub state : Store → State
state s = state_of s.memory s.half

-- what a call that is no collection answers and leaves
abbrev pub called : Call → Store → Answer × State
called c s = step c (tables_of s.memory) (state s)

abbrev pub Unchanged : Store → Store → Type 0
Unchanged s t = (t.memory ≡ s.memory) × (t.half ≡ s.half) × (t.work ≡ s.work)

-- A refused call leaves the whole store as it was, spare places and spare tables included.
abbrev pub IfRefused : {A E : Type 0} → Result A E → Type 0 → Type 0
IfRefused (Ok a) P = Unit {0}
IfRefused (Err e) P = P

-- Put, hole, done and void hand the slip back when they are refused.
abbrev pub told_back : {A : Type 0} → (A → Answer) → Result A (Refusal × Slip) → Answer
told_back say (Ok a) = say a
told_back say (Err e) = Refused e.0

abbrev pub HandsBack : {A : Type 0} → Result A (Refusal × Slip) → Slip → Type 0
HandsBack (Ok a) slip = Unit {0}
HandsBack (Err e) slip = e.1 ≡ slip

abbrev pub hands : Slip → Answer
hands slip = Hands slip.draft
