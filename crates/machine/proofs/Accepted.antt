-- Each call that neither side refuses acts alike on both.
use Rattle.std.proofs.Common.{◌≡◌, ℕ, ◌+◌, ◌<◌, ◌≤◌, Bool, true, false, cond, not, ◌&&◌, eqb, ltb, leb, List, [], length, refl, arith, Option, Some, None}
use Rattle.std.proofs.lemmas.Bool.{not-false, and_parts, eqb-true, eqb-false, leb-false, ltb-false}
use Rattle.cells.specs.declared.refusal.Refusal.{Refusal}
use Rattle.cells.specs.declared.refusal.Refusal.TheVariants.{HalfMade, WrongSlip}
use Rattle.cells.specs.declared.cell.Cell.TheVariants.{Functor, Atom, Integer}
use Rattle.cells.specs.Cells.{in_range}
use Rattle.tables.specs.Tables.{Tables, used}
use Rattle.terms.specs.Terms.{nil}
use Rattle.collectors.specs.Collectors.{Shows}
use Rattle.calls.specs.declared.Draft.{Draft}
use Rattle.calls.specs.declared.Call.{Call}
use Rattle.calls.specs.declared.Call.TheVariants.{Var, Atom as SetAtom, Int, Move, Look, Arg, Same, Unify, Open, Retry, Last, Cut, Start, Put, Hole, Done, Void, Collect, Usage}
use Rattle.calls.specs.Refusals.{no_register, same_draft, refusal, cells_needed}
use Rattle.calls.specs.Steps as Store
use Rattle.calls.specs.Steps.{State, Half}
use Rattle.machine.specs.Machine.{Level, Begun, Machine}
use Rattle.machine.specs.Runs.{is_collect}
use Rattle.machine.proofs.Related.{Related, HalfRelated, ByHalf, Relates}
use Rattle.machine.proofs.Acted.{Acted, idle, machine, making, maker}
use Rattle.machine.proofs.SetRegisters.{var_acted, atom_acted, int_acted, move_acted}
use Rattle.machine.proofs.LookCalls.{look_acted, same_acted}
use Rattle.machine.proofs.ArgumentCalls.{arg_acted}
use Rattle.machine.proofs.ChoiceCalls.{open_acted, retry_acted, last_acted, cut_acted, collect_acted}
use Rattle.machine.proofs.HalfMade.{start_acted}
use Rattle.machine.proofs.StructureCalls.{put_acted, hole_acted, done_acted, void_acted}
use Rattle.machine.proofs.UnifyCall.{unify_acted}

-- Where no test hits, each has failed.
passed : (b : Bool) (why : Refusal) (o : Option Refusal) → cond b (Some why) o ≡ None → (b ≡ false) × (o ≡ None)
passed true why o e = absurd (let z : ◌≡◌ {A = ℕ} 0 1 = cc in omega arith)
passed false why o e = (refl, e)

refused : {X : Type 0} (why : Refusal) → Some why ≡ None → X
refused why e = absurd (let z : ◌≡◌ {A = ℕ} 0 1 = cc in omega arith)

-- a slip that fits says how many arguments are missing
missing_same : (half slip : Draft) → not (same_draft half slip) ≡ false → half.missing ≡ slip.missing
missing_same half slip e =
    let p = and_parts (eqb half.name slip.name) (eqb half.arity slip.arity && eqb half.missing slip.missing) (not-false _ e) in
    eqb-true half.missing slip.missing (and_parts (eqb half.arity slip.arity) (eqb half.missing slip.missing) p.1).1

module _ (left t : Tables) (n : ℕ) (now : Level) (saved : List Level) (r : Related t [] n now nil saved) where
  has_choice : eqb (length t.choices) 0 ≡ false → 0 < length t.choices
  has_choice e = let ne = eqb-false (length t.choices) 0 e in omega arith

  idle_acted : (c : Call) → refusal None (length t.choices) (Store.lacks_argument t) c ≡ None → used t + cells_needed c ≤ 4096
      → (count : ℕ) → (is_collect c ≡ true → Shows count t left) → Acted c left (idle t) (machine n now saved)
  idle_acted (Var d) e room count law = var_acted t n now saved r (omega arith) left d
  idle_acted (SetAtom d a) e room count law = atom_acted t n now saved r left d a (not-false _ (passed (not (in_range (Atom a))) _ _ (passed (no_register d) _ _ e).1).0)
  idle_acted (Int d z) e room count law = int_acted t n now saved r left d z (not-false _ (passed (not (in_range (Integer z))) _ _ (passed (no_register d) _ _ e).1).0)
  idle_acted (Move d s) e room count law = move_acted t n now saved r left d s
  idle_acted (Look s) e room count law = look_acted t n now saved r left s
  idle_acted (Arg d s i) e room count law = arg_acted t n now saved r s i left d
  idle_acted (Same i j) e room count law = same_acted t n now saved r left i j
  idle_acted (Unify i j) e room count law = unify_acted t n now saved r left i j
  idle_acted Open e room count law = open_acted t n now saved r left (leb-false 64 (length t.choices) (passed (leb 64 (length t.choices)) _ _ e).0)
  idle_acted Retry e room count law = retry_acted t n now saved r left (has_choice (passed (eqb (length t.choices) 0) _ _ e).0)
  idle_acted Last e room count law = last_acted t n now saved r left (has_choice (passed (eqb (length t.choices) 0) _ _ e).0)
  idle_acted (Cut k) e room count law = cut_acted t n now saved r left k
  idle_acted (Start name arity) e room count law = start_acted t n now saved r left name arity (not-false _ (passed (not (in_range (Functor name arity))) _ _ e).0) room
  idle_acted (Put slip s) e room count law = refused WrongSlip e
  idle_acted (Hole slip) e room count law = refused WrongSlip e
  idle_acted (Done slip d) e room count law = refused WrongSlip e
  idle_acted (Void slip) e room count law = refused WrongSlip e
  idle_acted Collect e room count law = collect_acted t n now saved r count left (law refl)
  idle_acted Usage e room count law = (tt, r)

module _ (left t : Tables) (h : Half) (n : ℕ) (now : Level) (saved : List Level) (b : Begun) (r : HalfRelated t h n now saved b) where
  abbrev wrong : Draft → Bool
  wrong slip = not (same_draft (Store.draft_of t h) slip)

  some_missing : (slip : Draft) → wrong slip ≡ false → eqb slip.missing 0 ≡ false → 0 < h.missing
  some_missing slip e z = let m = missing_same (Store.draft_of t h) slip e in let ne = eqb-false slip.missing 0 z in omega arith

  none_missing : (slip : Draft) → wrong slip ≡ false → ltb 0 slip.missing ≡ false → h.missing ≡ 0
  none_missing slip e z = let m = missing_same (Store.draft_of t h) slip e in let le = ltb-false 0 slip.missing z in omega arith

  half_acted : (c : Call) → refusal (Some (Store.draft_of t h)) (length t.choices) (Store.lacks_argument t) c ≡ None → Acted c left (making t h) (maker n now saved b)
  half_acted (Var d) e = refused HalfMade e
  half_acted (SetAtom d a) e = refused HalfMade e
  half_acted (Int d z) e = refused HalfMade e
  half_acted (Move d s) e = refused HalfMade e
  half_acted (Look s) e = refused HalfMade e
  half_acted (Arg d s i) e = refused HalfMade e
  half_acted (Same i j) e = refused HalfMade e
  half_acted (Unify i j) e = refused HalfMade e
  half_acted Open e = refused HalfMade e
  half_acted Retry e = refused HalfMade e
  half_acted Last e = refused HalfMade e
  half_acted (Cut k) e = refused HalfMade e
  half_acted (Start name arity) e = refused HalfMade e
  half_acted (Put slip s) e = let p = passed (wrong slip) _ _ e in put_acted t h n now saved b r left slip s (some_missing slip p.0 (passed (eqb slip.missing 0) _ _ (passed (no_register s) _ _ p.1).1).0)
  half_acted (Hole slip) e = let p = passed (wrong slip) _ _ e in hole_acted t h n now saved b r left slip (some_missing slip p.0 (passed (eqb slip.missing 0) _ _ p.1).0)
  half_acted (Done slip d) e = let p = passed (wrong slip) _ _ e in done_acted t h n now saved b r (none_missing slip p.0 (passed (ltb 0 slip.missing) _ _ (passed (no_register d) _ _ p.1).1).0) left slip d
  half_acted (Void slip) e = void_acted t h n now saved b r left slip
  half_acted Collect e = refused HalfMade e
  half_acted Usage e = (tt, r)

pub accepted : (c : Call) (left : Tables) (s : State) (m : Machine) → Relates s m → Store.refusal_of c s ≡ None → used s.tables + cells_needed c ≤ 4096
    → (count : ℕ) → (is_collect c ≡ true → Shows count s.tables left) → Acted c left s m
accepted c left s m r e room count law = by s.half m.half r e
  where
    by : (h : Option Half) (b : Option Begun) → ByHalf s.tables h m.next m.now m.saved b → Store.refusal_of c (record { tables = s.tables; half = h }) ≡ None
        → Acted c left (record { tables = s.tables; half = h }) (record { next = m.next; now = m.now; saved = m.saved; half = b })
    by None None r e = idle_acted left s.tables m.next m.now m.saved r c e room count law
    by None (Some b) r e = absurd r
    by (Some h) None r e = absurd r
    by (Some h) (Some b) r e = half_acted left s.tables h m.next m.now m.saved b r c e
