-- After each collection that is carried out, the used cells are the count that its collector's meaning gives.
use Rattle.std.proofs.Common.{◌≡◌, ℕ, ◌+◌, ◌≤◌, Bool, true, false, List, [], ◌∷◌, sym, refl, ap, ◌∙◌, subst, ap₂, arith, Option, Some, None}
use Rattle.std.proofs.lemmas.Bool.{both_ways, le-ltb}
use Rattle.cells.specs.declared.refusal.Refusal.{Refusal}
use Rattle.tables.specs.Tables.{Tables, used}
use Rattle.calls.specs.declared.Call.{Call}
use Rattle.calls.specs.declared.Call.TheVariants.{Var, Atom as SetAtom, Int, Move, Look, Arg, Same, Unify, Open, Retry, Last, Cut, Start, Put, Hole, Done, Void, Collect, Usage}
use Rattle.calls.specs.Steps as Store
use Rattle.calls.specs.Steps.{State, Half}
use Rattle.machine.specs.Machine as Tree
use Rattle.machine.specs.Machine.{Begun, Machine}
use Rattle.machine.specs.Runs.{Event, is_collect, next, Lawful, begin, Counted, RunsCounted}
use Rattle.machine.proofs.Related.{ByHalf, Relates}
use Rattle.machine.proofs.Loaded.{loaded_relates}
use Rattle.machine.proofs.Stepped.{told, stepped}

is_collect_lem : (c : Call) → is_collect c ≡ true → c ≡ Collect
is_collect_lem (Var d) e = absurd (both_ways false refl e)
is_collect_lem (SetAtom d n) e = absurd (both_ways false refl e)
is_collect_lem (Int d z) e = absurd (both_ways false refl e)
is_collect_lem (Move d s) e = absurd (both_ways false refl e)
is_collect_lem (Look s) e = absurd (both_ways false refl e)
is_collect_lem (Arg d s i) e = absurd (both_ways false refl e)
is_collect_lem (Same i j) e = absurd (both_ways false refl e)
is_collect_lem (Unify i j) e = absurd (both_ways false refl e)
is_collect_lem Open e = absurd (both_ways false refl e)
is_collect_lem Retry e = absurd (both_ways false refl e)
is_collect_lem Last e = absurd (both_ways false refl e)
is_collect_lem (Cut k) e = absurd (both_ways false refl e)
is_collect_lem (Start name arity) e = absurd (both_ways false refl e)
is_collect_lem (Put slip s) e = absurd (both_ways false refl e)
is_collect_lem (Hole slip) e = absurd (both_ways false refl e)
is_collect_lem (Done slip d) e = absurd (both_ways false refl e)
is_collect_lem (Void slip) e = absurd (both_ways false refl e)
is_collect_lem Collect e = refl
is_collect_lem Usage e = absurd (both_ways false refl e)

-- A store that is free for a collection has no more cells in use than there are.
room : (s : State) (m : Machine) → Relates s m → Store.refusal_of Collect s ≡ None → used s.tables ≤ 4096
room s m r e = by s.half m.half r e
  where
    by : (h : Option Half) (b : Option Begun) → ByHalf s.tables h m.next m.now m.saved b → Store.refusal_of Collect (record { tables = s.tables; half = h }) ≡ None
        → used s.tables ≤ 4096
    by None None r e = r.stands.1.cells
    by None (Some b) r e = absurd r
    by (Some h) None r e = absurd r
    by (Some h) (Some b) r e = absurd (let z : ◌≡◌ {A = ℕ} 0 1 = cc in omega arith)

collected : (c : Call) (left : Tables) (s : State) (m : Machine) → Relates s m → is_collect c ≡ true → Store.refusal_of c s ≡ None → (Store.step c left s).1.tables ≡ left
collected c left s m r e p = subst (λ (x : Call). Store.refusal_of x s ≡ None → (Store.step x left s).1.tables ≡ left) (sym (is_collect_lem c e)) here p
  where
    here : Store.refusal_of Collect s ≡ None → (Store.step Collect left s).1.tables ≡ left
    here q = ap₂ (λ (o : Option Refusal) (full : Bool). (Store.unless o full s (Store.act Collect left s)).1.tables) q
        (le-ltb 4096 (used s.tables + 0) (let k = room s m r q in omega arith))

counted : (es : List Event) (s : State) (m : Machine) → Relates s m → Lawful s es → Counted s es
counted [] s m r l = tt
counted (e ∷ es) s m r l = (
  λ c p. ap used (collected e.call e.left s m r c p) ∙ (l.0 c p).counted,
  counted es (next e s) (told e s m) (stepped e s m r l.0).0 l.1,
)

pub runs_counted : RunsCounted
runs_counted t r f es l = counted es (begin t) (Tree.loaded t) (loaded_relates t (r, f)) l
