-- Every request leaves at a bench the slip of the half-made structure, and none where no structure is half made.
-- So giving up is never refused.
use Rattle.std.proofs.Common.{◌≡◌, ℕ, ◌+◌, ◌≤◌, Bool, true, false, cond, not, ltb, replicate, refl, ap, ◌∙◌, subst, arith, Option, Some, None}
use Rattle.std.proofs.lemmas.Bool.{and_from, eq-eqb, le-ltb}
use Rattle.std.proofs.lemmas.List.{get_or_at}
use Rattle.cells.specs.declared.cell.Cell.TheVariants.{Functor, Reference}
use Rattle.cells.specs.declared.cell.Cell.TheVariants as cell
use Rattle.cells.specs.declared.refusal.Refusal.{Refusal}
use Rattle.cells.specs.declared.refusal.Refusal.TheVariants.{WrongSlip}
use Rattle.tables.specs.Tables.{Tables, used, register}
use Rattle.heaps.specs.Spelling.{arity_of}
use Rattle.calls.specs.declared.Draft.{Draft}
use Rattle.calls.specs.declared.Call.{Call}
use Rattle.calls.specs.declared.Call.TheVariants as call
use Rattle.calls.specs.declared.Answer.{Answer}
use Rattle.calls.specs.declared.Answer.TheVariants.{Nothing, Refused}
use Rattle.calls.specs.Refusals.{same_draft, wrong_slip, cells_needed}
use Rattle.calls.specs.Steps.{Half, State, name_of, draft_of, draft, argument, set_argument, if_unified, act, unless, refusal_of, step}
use Rattle.calls.specs.Unifying.{unify_words}
use Rattle.store.proofs.HalfMade.{draft_same}
use Rattle.replaying.specs.declared.request.Request.{Request}
use Rattle.replaying.specs.declared.request.Request.TheVariants.{Var, Atom, Int, Move, Look, Arg, Same, Unify, Open, Retry, Last, Cut, Start, Put, Hole, Done, Void, Usage}
use Rattle.replaying.specs.Slips.{same_slip, Agrees}
use Rattle.replaying.specs.Benches.{BenchState, slip_after, performed}

same_itself : (a : Draft) → same_draft a a ≡ true
same_itself a = and_from _ _ (eq-eqb a.name a.name refl) (and_from _ _ (eq-eqb a.arity a.arity refl) (eq-eqb a.missing a.missing refl))

pub agree_from : (s : State) (slip : Option Draft) → draft s ≡ slip → Agrees s slip
agree_from s slip e = subst (λ o. same_slip (draft s) o ≡ true) e (by (draft s))
  where
    by : (o : Option Draft) → same_slip o o ≡ true
    by None = refl
    by (Some a) = same_itself a

same_slip_lem : (o p : Option Draft) → same_slip o p ≡ true → o ≡ p
same_slip_lem None None e = refl
same_slip_lem None (Some b) e = absurd (let z : ◌≡◌ {A = ℕ} 0 1 = cc in omega arith)
same_slip_lem (Some a) None e = absurd (let z : ◌≡◌ {A = ℕ} 0 1 = cc in omega arith)
same_slip_lem (Some a) (Some b) e = ap (λ d. Some d) (draft_same a b e)

-- what holds after each refusal and of what the call makes, holds of what comes
unless_either : (P : Answer × State → Type 0) (o : Option Refusal) (full : Bool) (s : State) (r : Answer × State) → ((why : Refusal) → P (Refused why, s)) → P r → P (unless o full s r)
unless_either P (Some why) full s r refused made = refused why
unless_either P None true s r refused made = refused _
unless_either P None false s r refused made = made

-- the slip goes with the half-made structure after the request
abbrev After : Request → BenchState → Type 0
After q b = draft (performed q b).1.state ≡ (performed q b).1.slip

-- a call does, where it does when it is accepted
call_after : (q : Request) (c : Call) (b : BenchState) → draft b.state ≡ b.slip
    → draft (act c b.state.tables b.state).1 ≡ slip_after q b.slip (act c b.state.tables b.state).0
    → draft (step c b.state.tables b.state).1 ≡ slip_after q b.slip (step c b.state.tables b.state).0
call_after q c b e made =
    unless_either (λ x. draft x.1 ≡ slip_after q b.slip x.0) (refusal_of c b.state) (ltb 4096 (used b.state.tables + cells_needed c)) b.state
    (act c b.state.tables b.state) (λ why. e) made

-- while no structure is half made
module _ (t : Tables) where
  abbrev free : BenchState
  free = record { state = record { tables = t; half = None }; slip = None }

  argument_after : (d r i : ℕ) (o : Option ℕ) → draft (set_argument free.state d o).1 ≡ slip_after (Arg d r i) None (set_argument free.state d o).0
  argument_after d r i None = refl
  argument_after d r i (Some n) = refl

  unified_after : (r u : ℕ) (o : Option Tables) → draft (if_unified free.state o).1 ≡ slip_after (Unify r u) None (if_unified free.state o).0
  unified_after r u None = refl
  unified_after r u (Some new) = refl

  started_after : (name arity : ℕ) → draft (act (call.Start name arity) t free.state).1 ≡ slip_after (Start name arity) None (act (call.Start name arity) t free.state).0
  started_after name arity =
      ap (λ c. Some (record { name = name_of c; arity = arity_of c; missing = arity }))
      (get_or_at t.heap (Functor name arity) (replicate arity (cell.Atom 0)) (Reference (used t)) (used t) refl)

  free_after : (q : Request) → After q free
  free_after (Var d) = call_after (Var d) (call.Var d) free refl refl
  free_after (Atom d n) = call_after (Atom d n) (call.Atom d n) free refl refl
  free_after (Int d z) = call_after (Int d z) (call.Int d z) free refl refl
  free_after (Move d r) = call_after (Move d r) (call.Move d r) free refl refl
  free_after (Look r) = call_after (Look r) (call.Look r) free refl refl
  free_after (Arg d r i) = call_after (Arg d r i) (call.Arg d r i) free refl (argument_after d r i (argument t r i))
  free_after (Same r u) = call_after (Same r u) (call.Same r u) free refl refl
  free_after (Unify r u) = call_after (Unify r u) (call.Unify r u) free refl (unified_after r u (unify_words t (register t r) (register t u)))
  free_after Open = call_after Open call.Open free refl refl
  free_after Retry = call_after Retry call.Retry free refl refl
  free_after Last = call_after Last call.Last free refl refl
  free_after (Cut k) = call_after (Cut k) (call.Cut k) free refl refl
  free_after (Start name arity) = call_after (Start name arity) (call.Start name arity) free refl (started_after name arity)
  free_after (Put r) = refl
  free_after Hole = refl
  free_after (Done d) = refl
  free_after Void = refl
  free_after Usage = call_after Usage call.Usage free refl refl

-- while a structure is half made
module _ (t : Tables) (h : Half) where
  abbrev made : BenchState
  made = record { state = record { tables = t; half = Some h }; slip = Some (draft_of t h) }

  made_after : (q : Request) → After q made
  made_after (Var d) = refl
  made_after (Atom d n) = refl
  made_after (Int d z) = refl
  made_after (Move d r) = refl
  made_after (Look r) = refl
  made_after (Arg d r i) = refl
  made_after (Same r u) = refl
  made_after (Unify r u) = refl
  made_after Open = refl
  made_after Retry = refl
  made_after Last = refl
  made_after (Cut k) = refl
  made_after (Start name arity) = refl
  made_after (Put r) = call_after (Put r) (call.Put (draft_of t h) r) made refl refl
  made_after Hole = call_after Hole (call.Hole (draft_of t h)) made refl refl
  made_after (Done d) = call_after (Done d) (call.Done (draft_of t h) d) made refl refl
  made_after Void = call_after Void (call.Void (draft_of t h)) made refl refl
  made_after Usage = call_after Usage call.Usage made refl refl

either_after : (q : Request) (t : Tables) (half : Option Half) → After q (record { state = record { tables = t; half = half }; slip = draft (record { tables = t; half = half }) })
either_after q t None = free_after t q
either_after q t (Some h) = made_after t h q

pub agree_after : (q : Request) (b : BenchState) → Agrees b.state b.slip → Agrees (performed q b).1.state (performed q b).1.slip
agree_after q b agrees =
    let same = same_slip_lem (draft b.state) b.slip agrees in
    let after = subst (λ o. After q (record { state = b.state; slip = o })) same (either_after q b.state.tables b.state.half) in
    agree_from (performed q b).1.state (performed q b).1.slip after

-- giving up

right_slip : (o : Option Draft) (slip : Draft) → same_slip o (Some slip) ≡ true → wrong_slip o slip ≡ false
right_slip None slip e = absurd (let z : ◌≡◌ {A = ℕ} 0 1 = cc in omega arith)
right_slip (Some a) slip e = ap not e

void_made : (slip : Draft) (t : Tables) (half : Option Half) → (act (call.Void slip) t (record { tables = t; half = half })).0 ≡ Nothing
void_made slip t None = refl
void_made slip t (Some h) = refl

pub void_told : (s : State) (slip : Draft) → Agrees s (Some slip) → used s.tables ≤ 4096 → (step (call.Void slip) s.tables s).0 ≡ Nothing
void_told s slip agrees low =
    ap (λ wrong. (unless (cond wrong (Some WrongSlip) None) (ltb 4096 (used s.tables + 0)) s (act (call.Void slip) s.tables s)).0) (right_slip (draft s) slip agrees)
    ∙ ap (λ full. (unless None full s (act (call.Void slip) s.tables s)).0) (le-ltb 4096 (used s.tables + 0) (omega arith))
    ∙ void_made slip s.tables s.half
