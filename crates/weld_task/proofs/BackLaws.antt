-- Going back to the oldest choice point gives back the tables that it was opened with.
use Rattle.std.proofs.Common.{◌≡◌, ℕ, ◌+◌, ◌-◌, ◌<◌, ◌≤◌, Bool, false, cond, List, [], ◌∷◌, length, sym, ap, ◌∙◌, ap₂, ◌==◌, arith, Option, Some, None}
use Rattle.std.proofs.lemmas.Bool.{le-ltb}
use Rattle.std.proofs.lemmas.List.{length-drop}
use Rattle.cells.specs.declared.refusal.Refusal.{Refusal}
use Rattle.cells.specs.declared.refusal.Refusal.TheVariants.{HalfMade, NoChoice}
use Rattle.tables.specs.Tables.{Choice, Tables, used, keep_choices}
use Rattle.tables.specs.Views.{tables_of}
use Rattle.heaps.specs.Levels.{last, undo}
use Rattle.heaps.proofs.CutLaws.{undo_keep_choices}
use Rattle.calls.specs.declared.Call.{Call}
use Rattle.calls.specs.declared.Call.TheVariants.{Last, Cut}
use Rattle.calls.specs.declared.Answer.{Answer}
use Rattle.calls.specs.declared.Answer.TheVariants.{Nothing, Refused}
use Rattle.calls.specs.Refusals.{cells_needed}
use Rattle.std.specs.Option.{is_some}
use Rattle.calls.specs.Steps.{Half, State, draft_of, draft, act, unless, refusal_of, step}
use Rattle.calls.proofs.KeepRefused.{refused_unchanged}
use Rattle.calls.proofs.KeepSteps.{step_accepted, none_stands}
use Rattle.store.specs.declared.store.Store.{Store}
use Rattle.store.specs.Called.{state, called}
use Rattle.store.proofs.Keeping.{whole}
use Rattle.weld_task.specs.Slips.{half_in}
use Rattle.weld_task.specs.Levels.{oldest_of, oldest}

-- refused calls

pub same_state : (c : Call) (s t : Store) (why : Refusal) → (Refused why, state t) ≡ called c s → state t ≡ state s
same_state c s t why e = ap (λ (x : Answer × State). x.1) e ∙ refused_unchanged c (tables_of s.memory) (state s) why (sym (ap (λ (x : Answer × State). x.0) e))

-- what an accepted call leaves
left_by : (c : Call) (s : Store) (t : State) → (Nothing, t) ≡ called c s → t ≡ (act c (tables_of s.memory) (state s)).1
left_by c s t e = ap (λ (x : Answer × State). x.1) (e ∙ (step_accepted c (tables_of s.memory) (state s) (sym (ap (λ (x : Answer × State). x.0) e))).1)

-- last, where no structure is half made and there is a choice point

taken : (c : Call) (s : State) (left : Tables) → refusal_of c s ≡ None → used s.tables + cells_needed c ≤ 4096 → step c left s ≡ act c left s
taken c s left p q = ap₂ (λ (o : Option Refusal) (b : Bool). unless o b s (act c left s)) p (le-ltb 4096 (used s.tables + cells_needed c) q)

no_draft : (s : State) → s.half ≡ None → is_some (draft s) ≡ false
no_draft s e = ap (λ (o : Option Half). is_some (elim o [ None ↦ None | Some h ↦ Some (draft_of s.tables h) ])) e

room : (s : Store) → half_in s ≡ None → used (state s).tables + 0 ≤ 4096
room s e = let k = (none_stands (state s) e (whole s)).1.cells in omega arith

some_point : (s : Store) (b : Tables) → oldest s ≡ Some b → 0 < length (state s).tables.choices
some_point s b = by (state s).tables.choices
  where
    by : (cs : List Choice) → oldest_of cs (state s).tables ≡ Some b → 0 < length cs
    by [] o = absurd (let z : ◌≡◌ {A = ℕ} 0 1 = cc in omega arith)
    by (c ∷ cs) o = omega arith

last_taken : (s : State) (left : Tables) → s.half ≡ None → length s.tables.choices ≡ 1 → used s.tables ≤ 4096 → step Last left s ≡ act Last left s
last_taken s left e one small = taken Last s left
    (ap₂ (λ (a b : Bool). cond a (Some HalfMade) (cond b (Some NoChoice) None)) (no_draft s e) (ap (λ (n : ℕ). n == 0) one)) (omega arith)

one_left : (x : Tables) → 0 < length x.choices → length (keep_choices x 1).choices ≡ 1
one_left x n = let m = length-drop (length x.choices - 1) x.choices in omega arith

all_undone : (x : Tables) (b : Tables) (cs : List Choice) → oldest_of cs x ≡ Some b → undo x (length cs) ≡ b
all_undone x b [] o = absurd (let z : ◌≡◌ {A = ℕ} 0 1 = cc in omega arith)
all_undone x b (c ∷ cs) o = cc

-- the oldest choice point is kept alone, and gone back to
pub went_back : (s : Store) (t u : State) (a : Answer) → (a, u) ≡ step Last t.tables t → u.half ≡ t.half → (Nothing, t) ≡ called (Cut 1) s
    → (b : Tables) → half_in s ≡ None → oldest s ≡ Some b → u ≡ record { tables = b; half = None }
went_back s t u a f g e b h o =
    let x = (state s).tables in
    let n = some_point s b o in
    let cut : t ≡ record { tables = keep_choices x 1; half = (state s).half } = left_by (Cut 1) s t e in
    let half : t.half ≡ None = ap (λ (y : State). y.half) cut ∙ h in
    let one : length t.tables.choices ≡ 1 = ap (λ (y : State). length y.tables.choices) cut ∙ one_left x n in
    let same : used t.tables ≡ used x = ap (λ (y : State). used y.tables) cut in
    let small : used t.tables ≤ 4096 = let r = room s h in omega arith in
    let gone : last t.tables ≡ b =
    ap (λ (y : State). last y.tables) cut
    ∙ undo_keep_choices x 1 1 (none_stands (state s) h (whole s)).0.tops (omega arith) (omega arith)
    ∙ ap (undo x) (let m : length x.choices - 1 + 1 ≡ length x.choices = omega arith in m)
    ∙ all_undone x b x.choices o in
    ap (λ (y : Answer × State). y.1) (f ∙ last_taken t t.tables half one small)
    ∙ ap₂ (λ (y : Tables) (z : Option Half). let r : State = record { tables = y; half = z } in r) gone half
