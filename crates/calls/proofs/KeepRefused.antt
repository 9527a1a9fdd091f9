-- A call is refused by its tests only: what an accepted call answers is no refusal, and a refused call leaves the state as it was.
use Rattle.std.proofs.Common.{◌≡◌, ℕ, ◌+◌, Bool, true, false, ltb, refl, ap, Option, Some, None}
use Rattle.std.proofs.lemmas.Bool.{both_ways}
use Rattle.cells.specs.declared.refusal.Refusal.{Refusal}
use Rattle.tables.specs.Tables.{Tables, used, register}
use Rattle.calls.specs.declared.Call.{Call}
use Rattle.calls.specs.declared.Call.TheVariants.{Var, Atom as SetAtom, Int, Move, Look, Arg, Same, Unify, Open, Retry, Last, Cut, Start, Put, Hole, Done, Void, Collect, Usage}
use Rattle.calls.specs.declared.Answer.{Answer}
use Rattle.calls.specs.declared.Answer.TheVariants.{Nothing, Refused, Sees, Tells, Hands, Counts}
use Rattle.calls.specs.Refusals.{cells_needed}
use Rattle.calls.specs.Unifying.{unify_words}
use Rattle.calls.specs.Steps.{Half, State, argument, set_argument, if_unified, on_half, act, unless, refusal_of}
use Rattle.calls.specs.KeepLaws.{RefusedUnchanged}

abbrev pub is_refused : Answer → Bool
is_refused Nothing = false
is_refused (Refused why) = true
is_refused (Sees x) = false
is_refused (Tells x) = false
is_refused (Hands x) = false
is_refused (Counts u) = false

argument_answers : (s : State) (d : ℕ) (o : Option ℕ) → is_refused (set_argument s d o).0 ≡ false
argument_answers s d None = refl
argument_answers s d (Some n) = refl

unified_answers : (s : State) (o : Option Tables) → is_refused (if_unified s o).0 ≡ false
unified_answers s None = refl
unified_answers s (Some u) = refl

half_answers : (s : State) (f : Half → Answer × State) → ((h : Half) → is_refused (f h).0 ≡ false) → is_refused (on_half s f).0 ≡ false
half_answers s f g = by s.half
  where
    with_half_lem : Option Half → Answer × State
    with_half_lem o = elim o [ None ↦ (Nothing, s) | Some h ↦ f h ]

    by : (o : Option Half) → is_refused (with_half_lem o).0 ≡ false
    by None = refl
    by (Some h) = g h

pub act_answers : (c : Call) (left : Tables) (s : State) → is_refused (act c left s).0 ≡ false
act_answers (Var d) left s = refl
act_answers (SetAtom d n) left s = refl
act_answers (Int d z) left s = refl
act_answers (Move d r) left s = refl
act_answers (Look r) left s = refl
act_answers (Arg d r i) left s = argument_answers s d (argument s.tables r i)
act_answers (Same p q) left s = refl
act_answers (Unify p q) left s = unified_answers s (unify_words s.tables (register s.tables p) (register s.tables q))
act_answers Open left s = refl
act_answers Retry left s = refl
act_answers Last left s = refl
act_answers (Cut k) left s = refl
act_answers (Start name arity) left s = refl
act_answers (Put slip r) left s = half_answers s _ (λ h. refl)
act_answers (Hole slip) left s = half_answers s _ (λ h. refl)
act_answers (Done slip d) left s = half_answers s _ (λ h. refl)
act_answers (Void slip) left s = half_answers s _ (λ h. refl)
act_answers Collect left s = refl
act_answers Usage left s = refl

pub refused_unchanged : RefusedUnchanged
refused_unchanged c left s why e = by (refusal_of c s) (ltb 4096 (used s.tables + cells_needed c)) e
  where
    by : (o : Option Refusal) (b : Bool) → (unless o b s (act c left s)).0 ≡ Refused why → (unless o b s (act c left s)).1 ≡ s
    by (Some x) b q = refl
    by None true q = refl
    by None false q = absurd (both_ways (is_refused (act c left s).0) (act_answers c left s) (ap is_refused q))
