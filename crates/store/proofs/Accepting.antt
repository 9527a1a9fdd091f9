-- A call that no test hits is carried out; any other is refused, and changes nothing.
use Rattle.std.proofs.Common.{◌≡◌, ℕ, ◌+◌, Bool, true, false, cond, ltb, List, [], ◌∷◌, sym, refl, ap, ◌∙◌, arith, Option, Some, None}
use Rattle.std.proofs.lemmas.Bool.{ltb-false}
use Rattle.cells.specs.declared.refusal.Refusal.{Refusal}
use Rattle.cells.specs.declared.refusal.Refusal.TheVariants.{NoCells}
use Rattle.tables.specs.Tables.{Tables, used}
use Rattle.calls.specs.declared.Call.{Call}
use Rattle.calls.specs.declared.Answer.{Answer}
use Rattle.calls.specs.declared.Answer.TheVariants.{Refused}
use Rattle.calls.specs.Refusals.{first_hit, cells_needed}
use Rattle.calls.specs.Steps.{State, act, unless, refusal_of, step}
use Rattle.calls.proofs.KeepSteps.{Missed, Accepted}
use Rattle.refusing.specs.Refused.{or_full, refusal_for}

module _ (s : State) (r : Answer × State) where
  unless_refused : (o : Option Refusal) (full : Bool) (why : Refusal) → or_full o full ≡ Some why → unless o full s r ≡ (Refused why, s)
  unless_refused (Some w) full why e = let same : w ≡ why = cc in ap (λ (x : Refusal). (Refused x, s)) same
  unless_refused None true why e = let same : NoCells ≡ why = cc in ap (λ (x : Refusal). (Refused x, s)) same
  unless_refused None false why e = absurd (let z : ◌≡◌ {A = ℕ} 0 1 = cc in omega arith)

  unless_accepted : (o : Option Refusal) (full : Bool) → or_full o full ≡ None → unless o full s r ≡ r
  unless_accepted (Some w) full e = absurd (let z : ◌≡◌ {A = ℕ} 0 1 = cc in omega arith)
  unless_accepted None true e = absurd (let z : ◌≡◌ {A = ℕ} 0 1 = cc in omega arith)
  unless_accepted None false e = refl

pub step_refused : (c : Call) (left : Tables) (s : State) (why : Refusal) → refusal_for c s ≡ Some why → step c left s ≡ (Refused why, s)
step_refused c left s why e = unless_refused s (act c left s) (refusal_of c s) (ltb 4096 (used s.tables + cells_needed c)) why e

pub step_accepted : (c : Call) (left : Tables) (s : State) → refusal_for c s ≡ None → step c left s ≡ act c left s
step_accepted c left s e = unless_accepted s (act c left s) (refusal_of c s) (ltb 4096 (used s.tables + cells_needed c)) e

missed : (ts : List (Refusal × Bool)) → first_hit ts ≡ None → Missed ts
missed [] e = tt
missed (x ∷ xs) e = by_test x.1 refl (missed xs)
  where
    by_test : (b : Bool) → x.1 ≡ b → (first_hit xs ≡ None → Missed xs) → Missed (x ∷ xs)
    by_test true h rest =
        let hit : first_hit (x ∷ xs) ≡ Some x.0 = ap (λ (v : Bool). cond v (Some x.0) (first_hit xs)) h in
        absurd (let z : ◌≡◌ {A = ℕ} 0 1 = cc in omega arith)
    by_test false h rest = (h, rest (sym (ap (λ (v : Bool). cond v (Some x.0) (first_hit xs)) h) ∙ e))

or_full_none : (o : Option Refusal) (full : Bool) → or_full o full ≡ None → (o ≡ None) × (full ≡ false)
or_full_none (Some w) full e = absurd (let z : ◌≡◌ {A = ℕ} 0 1 = cc in omega arith)
or_full_none None true e = absurd (let z : ◌≡◌ {A = ℕ} 0 1 = cc in omega arith)
or_full_none None false e = (refl, refl)

-- What an accepted call may rely on.
pub accepted : (c : Call) (s : State) → None ≡ refusal_for c s → Accepted c s
accepted c s e =
    let n = used s.tables + cells_needed c in
    let h = or_full_none (refusal_of c s) (ltb 4096 n) (sym e) in
    (missed _ h.0, ltb-false 4096 n h.1)
