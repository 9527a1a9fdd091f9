-- What agrees before an event agrees after it, and the answers compare unless cells are wanting.
use Rattle.std.proofs.Common.{◌≡◌, ◌+◌, Bool, true, false, cond, ltb, sym, refl, subst, Option, Some, None}
use Rattle.std.proofs.lemmas.Bool.{both_ways, ltb-false}
use Rattle.cells.specs.declared.refusal.Refusal.{Refusal}
use Rattle.tables.specs.Tables.{used}
use Rattle.collectors.specs.Collectors.{Shows}
use Rattle.calls.specs.declared.Answer.{Answer}
use Rattle.calls.specs.declared.Answer.TheVariants.{Refused}
use Rattle.calls.specs.Refusals.{cells_needed}
use Rattle.calls.specs.Steps as Store
use Rattle.calls.specs.Steps.{State}
use Rattle.machine.specs.Machine as Tree
use Rattle.machine.specs.Machine.{Machine}
use Rattle.machine.specs.Runs.{Event, is_collect, answer, is_want, Compared}
use Rattle.machine.proofs.Related.{Relates}
use Rattle.machine.proofs.Refusing.{refusals_same, act_plain}
use Rattle.machine.proofs.Accepted.{accepted}

-- the machine after an event: it passes over what the store refused for want of cells
abbrev pub told : Event → State → Machine → Machine
told e s m = cond (is_want (answer e s)) m (Tree.step e.call m).1

-- what is to be shown of one event, with the store's and the machine's results x and y
abbrev pub Stepped : Machine → Answer × State → Answer × Machine → Type 0
Stepped m x y = Relates x.1 (cond (is_want x.0) m y.1) × (is_want x.0 ≡ false → Compared x.0 y.0)

abbrev pub LawfulAt : Event → State → Type 0
LawfulAt e s = is_collect e.call ≡ true → Store.refusal_of e.call s ≡ None → Shows (e.meaning.count s.tables) s.tables e.left

either_way : (b : Bool) (s : State) (m : Machine) → Relates s m → Relates s (cond b m m)
either_way true s m r = r
either_way false s m r = r

pub stepped : (e : Event) (s : State) (m : Machine) → Relates s m → LawfulAt e s → Stepped m (Store.step e.call e.left s) (Tree.step e.call m)
stepped e s m r law =
    subst (λ (p : Option Refusal). Stepped m (Store.step e.call e.left s) (Tree.unless p m (Tree.act e.call m))) (refusals_same e.call s m r)
    (by (Store.refusal_of e.call s) (ltb 4096 (used s.tables + cells_needed e.call)) refl refl)
  where
    by : (o : Option Refusal) (full : Bool) → Store.refusal_of e.call s ≡ o → ltb 4096 (used s.tables + cells_needed e.call) ≡ full
        → Stepped m (Store.unless o full s (Store.act e.call e.left s)) (Tree.unless o m (Tree.act e.call m))
    by (Some why) full p q = (either_way (is_want (Refused why)) s m r, λ z. refl)
    by None true p q = (r, λ z. absurd (both_ways true z refl))
    by None false p q =
        let a = accepted e.call e.left s m r p (ltb-false 4096 (used s.tables + cells_needed e.call) q) (e.meaning.count s.tables) (λ c. law c p) in
        (subst (λ (b : Bool). Relates (Store.act e.call e.left s).1 (cond b m (Tree.act e.call m).1)) (sym (act_plain e.call e.left s)) a.1, λ z. a.0)
