-- Both sides refuse the same calls, with the same refusal; and a call that is carried out never answers that cells are wanting.
use Rattle.std.proofs.Common.{◌≡◌, ℕ, Bool, false, length, refl, ap, ◌∙◌, ap₂, Option, Some, None}
use mathlib.Core.Path.{fun_ext}
use Rattle.cells.specs.declared.refusal.Refusal.{Refusal}
use Rattle.tables.specs.Tables.{Tables, register}
use Rattle.calls.specs.declared.Draft.{Draft}
use Rattle.calls.specs.declared.Call.{Call}
use Rattle.calls.specs.declared.Call.TheVariants.{Var, Atom as SetAtom, Int, Move, Look, Arg, Same, Unify, Open, Retry, Last, Cut, Start, Put, Hole, Done, Void, Collect, Usage}
use Rattle.calls.specs.declared.Answer.{Answer}
use Rattle.calls.specs.declared.Answer.TheVariants.{Nothing}
use Rattle.calls.specs.Refusals.{refusal}
use Rattle.calls.specs.Unifying.{unify_words}
use Rattle.calls.specs.Steps as Store
use Rattle.calls.specs.Steps.{State, Half}
use Rattle.machine.specs.Machine as Tree
use Rattle.machine.specs.Machine.{Begun, Machine}
use Rattle.machine.specs.Runs.{is_want}
use Rattle.machine.proofs.Related.{ByHalf, Relates}
use Rattle.machine.proofs.ArgumentCalls.{lacks_same}
use Rattle.machine.proofs.HalfMade.{drafts_same}

-- While a structure is half made, no test looks for an argument.
half_lacks : (d : Draft) (points : ℕ) (f g : ℕ → ℕ → Bool) (c : Call) → refusal (Some d) points f c ≡ refusal (Some d) points g c
half_lacks e points f g (Var d) = refl
half_lacks e points f g (SetAtom d a) = refl
half_lacks e points f g (Int d z) = refl
half_lacks e points f g (Move d s) = refl
half_lacks e points f g (Look s) = refl
half_lacks e points f g (Arg d s i) = refl
half_lacks e points f g (Same i j) = refl
half_lacks e points f g (Unify i j) = refl
half_lacks e points f g Open = refl
half_lacks e points f g Retry = refl
half_lacks e points f g Last = refl
half_lacks e points f g (Cut k) = refl
half_lacks e points f g (Start name arity) = refl
half_lacks e points f g (Put slip s) = refl
half_lacks e points f g (Hole slip) = refl
half_lacks e points f g (Done slip d) = refl
half_lacks e points f g (Void slip) = refl
half_lacks e points f g Collect = refl
half_lacks e points f g Usage = refl

-- the machine's refusal of a call
abbrev pub tree_refusal : Call → Machine → Option Refusal
tree_refusal c m = refusal (Tree.draft m) (length m.saved) (Tree.lacks_argument m) c

pub refusals_same : (c : Call) (s : State) (m : Machine) → Relates s m → Store.refusal_of c s ≡ tree_refusal c m
refusals_same c s m r = by s.half m.half r
  where
    by : (h : Option Half) (b : Option Begun) → ByHalf s.tables h m.next m.now m.saved b
        → Store.refusal_of c (record { tables = s.tables; half = h }) ≡ tree_refusal c (record { next = m.next; now = m.now; saved = m.saved; half = b })
    by None None r = ap₂ (λ (points : ℕ) (lacks : ℕ → ℕ → Bool). refusal None points lacks c) r.older.points
        (fun_ext (λ (x : ℕ). fun_ext (λ (i : ℕ). lacks_same s.tables m.next m.now m.saved r x i)))
    by None (Some b) r = absurd r
    by (Some h) None r = absurd r
    by (Some h) (Some b) r = half_lacks (Store.draft_of s.tables h) (length s.tables.choices) (Store.lacks_argument s.tables) (Tree.lacks_argument m) c ∙ ap₂ (λ (d : Draft) (points : ℕ). refusal (Some d) points (Tree.lacks_argument m) c)
        (drafts_same s.tables h m.next m.now m.saved b r) (ap (λ (x : Tables). length x.choices) r.structure ∙ r.related.older.points)

half_plain : (s : State) (o : Option Half) (f : Half → Answer × State) → ((h : Half) → is_want (f h).0 ≡ false)
    → is_want (elim o as (λ x. Answer × State) [ None ↦ (Nothing, s) | Some h ↦ f h ]).0 ≡ false
half_plain s None f p = refl
half_plain s (Some h) f p = p h

argument_plain : (s : State) (d : ℕ) (o : Option ℕ) → is_want (Store.set_argument s d o).0 ≡ false
argument_plain s d None = refl
argument_plain s d (Some n) = refl

unified_plain : (s : State) (o : Option Tables) → is_want (Store.if_unified s o).0 ≡ false
unified_plain s None = refl
unified_plain s (Some t) = refl

pub act_plain : (c : Call) (left : Tables) (s : State) → is_want (Store.act c left s).0 ≡ false
act_plain (Var d) left s = refl
act_plain (SetAtom d a) left s = refl
act_plain (Int d z) left s = refl
act_plain (Move d r) left s = refl
act_plain (Look r) left s = refl
act_plain (Arg d r i) left s = argument_plain s d (Store.argument s.tables r i)
act_plain (Same i j) left s = refl
act_plain (Unify i j) left s = unified_plain s (unify_words s.tables (register s.tables i) (register s.tables j))
act_plain Open left s = refl
act_plain Retry left s = refl
act_plain Last left s = refl
act_plain (Cut k) left s = refl
act_plain (Start name arity) left s = refl
act_plain (Put slip r) left s = half_plain s s.half _ (λ h. refl)
act_plain (Hole slip) left s = half_plain s s.half _ (λ h. refl)
act_plain (Done slip d) left s = half_plain s s.half _ (λ h. refl)
act_plain (Void slip) left s = half_plain s s.half _ (λ h. refl)
act_plain Collect left s = refl
act_plain Usage left s = refl
