-- The slip that start hands out is that of the half-made structure, and void takes the slip of the half-made structure always.
use Rattle.std.proofs.Common.{◌≡◌, ℕ, ◌+◌, ◌≤◌, Bool, true, false, cond, not, ◌∷◌, ◌++◌, get_or, replicate, Ok, Err, Result, sym, refl, ap, ◌∙◌, ap₂, add-zero, arith, Option, Some, None}
use Rattle.std.proofs.lemmas.List.{get_or-append-add}
use Rattle.std.proofs.lemmas.Bool.{and_from, eq-eqb, le-ltb}
use Rattle.cells.specs.declared.cell.Cell.{Cell}
use Rattle.cells.specs.declared.cell.Cell.TheVariants.{Reference, Functor, Atom}
use Rattle.cells.specs.declared.refusal.Refusal.{Refusal}
use Rattle.cells.specs.declared.refusal.Refusal.TheVariants.{WrongSlip}
use Rattle.tables.specs.Tables.{Tables, used, cut_heap}
use Rattle.tables.specs.Views.{tables_of}
use Rattle.heaps.specs.Spelling.{arity_of}
use Rattle.calls.specs.declared.Draft.{Draft}
use Rattle.calls.specs.declared.Call.{Call}
use Rattle.calls.specs.declared.Call.TheVariants.{Start, Void}
use Rattle.calls.specs.declared.Answer.{Answer}
use Rattle.calls.specs.declared.Answer.TheVariants.{Nothing, Refused, Hands}
use Rattle.calls.specs.Refusals.{same_draft, wrong_slip}
use Rattle.calls.specs.Steps.{Half, State, name_of, draft_of, draft, on_half, act, step}
use Rattle.calls.specs.Whole.{Whole}
use Rattle.calls.proofs.KeepSteps.{Accepted, half_none, some_stands}
use Rattle.store.specs.declared.store.Slip.{Slip}
use Rattle.store.specs.declared.store.Store.{Store}
use Rattle.refusing.specs.Refused.{or_full, refusal_for}
use Rattle.store.specs.Called.{state, called, told, hands}
use Rattle.store.proofs.Accepting.{accepted, step_accepted, step_refused}
use Rattle.store.proofs.Keeping.{whole}
use Rattle.weld_task.specs.Slips.{Held, Begun}
use Rattle.weld_task.proofs.BackLaws.{same_state}

-- A call that hands out a slip was accepted.
handed : (c : Call) (left : Tables) (s u : State) (d : Draft) → (Hands d, u) ≡ step c left s → Accepted c s × ((Hands d, u) ≡ act c left s)
handed c left s u d e = by (refusal_for c s) refl
  where
    by : (o : Option Refusal) → refusal_for c s ≡ o → Accepted c s × ((Hands d, u) ≡ act c left s)
    by (Some why) p =
        let q : Hands d ≡ Refused why = ap (λ (x : Answer × State). x.0) (e ∙ step_refused c left s why p) in
        absurd (let z : ◌≡◌ {A = ℕ} 0 1 = cc in omega arith)
    by None p = (accepted c s (sym p), e ∙ step_accepted c left s p)

start_held : (name arity : ℕ) (left : Tables) (s u : State) (d : Draft) → (Hands d, u) ≡ step (Start name arity) left s → (draft u ≡ Some d) × (s.half ≡ None)
start_held name arity left s u d e =
    let h = handed (Start name arity) left s u d e in
    let t = s.tables in
    let cells = t.heap ++ (Functor name arity ∷ replicate arity (Atom 0)) in
    let slip : Draft = record { name = name; arity = arity; missing = arity } in
    let said : Hands d ≡ Hands slip = ap (λ (x : Answer × State). x.0) h.1 in
    let same : d ≡ slip = cc in
    let functor : get_or cells (used t) (Reference (used t)) ≡ Functor name arity =
    ap (λ k. get_or cells k (Reference (used t))) (sym (add-zero (used t))) ∙ get_or-append-add t.heap (Functor name arity ∷ replicate arity (Atom 0)) 0 (Reference (used t)) in
    let drawn : Cell → Option Draft = λ c. Some (record { name = name_of c; arity = arity_of c; missing = arity }) in (
      ap (λ (x : Answer × State). draft x.1) h.1 ∙ ap drawn functor ∙ ap (λ (x : Draft). Some x) (sym same),
      half_none s h.0.0.0,
    )

-- the slip that is handed out is that of the structure that was begun
pub begun : (name arity : ℕ) (s t : Store) (r : Result Slip Refusal) → (told hands r, state t) ≡ called (Start name arity) s → Begun s t r
begun name arity s t (Ok slip) e = start_held name arity (tables_of s.memory) (state s) (state t) slip.draft e
begun name arity s t (Err why) e = ap (λ (x : State). x.half) (same_state (Start name arity) s t why e)

same_draft_lem : (d : Draft) → same_draft d d ≡ true
same_draft_lem d = and_from _ _ (eq-eqb d.name d.name refl) (and_from _ _ (eq-eqb d.arity d.arity refl) (eq-eqb d.missing d.missing refl))

room : (s : State) (d : Draft) → Whole s → draft s ≡ Some d → used s.tables ≤ 4096
room s d w e = by s.half refl e
  where
    by : (o : Option Half) → s.half ≡ o → elim o [ None ↦ None | Some h ↦ Some (draft_of s.tables h) ] ≡ Some d → used s.tables ≤ 4096
    by None p q = absurd (let z : ◌≡◌ {A = ℕ} 0 1 = cc in omega arith)
    by (Some h) p q = (some_stands s h p w).room

ends_told : (s : State) (f : Half → State) → (on_half s (λ h. (Nothing, f h))).0 ≡ Nothing
ends_told s f = by s.half
  where
    by : (o : Option Half) → (elim o as (λ _. Answer × State) [ None ↦ (Nothing, s) | Some h ↦ (Nothing, f h) ]).0 ≡ Nothing
    by None = refl
    by (Some h) = refl

-- void is not refused
pub void_taken : (s : Store) (slip : Slip) (u : State) (why : Refusal) → Held s slip → (Refused why, u) ≡ called (Void slip.draft) s → ⊥
void_taken s slip u why held e =
    let d = slip.draft in
    let t = tables_of s.memory in
    let right : wrong_slip (draft (state s)) d ≡ false = ap (λ (o : Option Draft). wrong_slip o d) held ∙ ap not (same_draft_lem d) in
    let small = room (state s) d (whole s) held in
    let taken : refusal_for (Void d) (state s) ≡ None =
    ap₂ (λ (b full : Bool). or_full (cond b (Some WrongSlip) None) full) right (le-ltb 4096 (used t + 0) (omega arith)) in
    let q : Refused why ≡ Nothing =
    ap (λ (x : Answer × State). x.0) (e ∙ step_accepted (Void d) t (state s) taken) ∙ ends_told (state s) (λ h. record { tables = cut_heap t h.at; half = None }) in
    let z : ◌≡◌ {A = ℕ} 0 1 = cc in omega arith
