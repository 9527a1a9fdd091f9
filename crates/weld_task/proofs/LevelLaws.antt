-- What each call of a store does to its choice points, and that going back to the oldest gives back the tables from before it.
use Rattle.std.proofs.Common.{◌≡◌, ℕ, ◌<◌, Bool, true, false, List, [], ◌∷◌, length, refl, subst, ap, ◌∙◌, ap₂, arith, Option, Some, None}
use Rattle.std.proofs.lemmas.Bool.{both_ways}
use Rattle.cells.specs.declared.cell.Cell.{Cell}
use Rattle.tables.specs.Tables.{Choice, Tables, register}
use Rattle.heaps.specs.Levels.{last, retry_of, undo}
use Rattle.heaps.specs.LevelLaws.{Stands, HasChoice}
use Rattle.heaps.proofs.KeptWords.{keeps_register}
use Rattle.terms.specs.Terms.{var}
use Rattle.terms.specs.Unifiers.{Subst}
use Rattle.terms.specs.Robinson.{unify}
use Rattle.heaps.specs.Spelling.{spell}
use Rattle.calls.specs.declared.Call.{Call}
use Rattle.calls.specs.declared.Call.TheVariants.{Var, Atom as SetAtom, Int, Move, Look, Arg, Same, Unify, Open, Retry, Last, Cut, Start, Put, Hole, Done, Void, Collect, Usage}
use Rattle.calls.specs.declared.Answer.{Answer}
use Rattle.calls.specs.declared.Answer.TheVariants.{Nothing}
use Rattle.calls.specs.Unifying.{unify_words}
use Rattle.calls.specs.UnifyLaws.{BothBound}
use Rattle.calls.specs.Steps.{Half, State, argument, set_argument, if_unified, on_half, act, step}
use Rattle.calls.specs.Whole.{Whole}
use Rattle.calls.specs.KeepLaws.{keeps_levels}
use Rattle.calls.proofs.UnifySteps.{unify_steps}
use Rattle.calls.proofs.KeepLaws.{levels_kept}
use Rattle.calls.proofs.KeepSteps.{Accepted, step_either, half_none, none_stands}
use Rattle.store.specs.declared.store.Store.{Store}
use Rattle.store.specs.Called.{state, called}
use Rattle.store.proofs.Keeping.{whole}
use Rattle.tables.specs.Views.{tables_of}
use Rattle.weld_task.specs.Slips.{half_in}
use Rattle.weld_task.specs.Levels.{oldest_of, levels, base}

-- the choice points themselves

abbrev SameChoices : State → State → Type 0
SameChoices s u = u.tables.choices ≡ s.tables.choices

-- unifying binds cells and adds trail entries
choices_unified : (t u : Tables) (p q : ℕ) → Stands t → unify_words t (register t p) (register t q) ≡ Some u → u.choices ≡ t.choices
choices_unified t u p q k e = by (unify var (spell t.heap a) (spell t.heap b)) (subst (λ (o : Option Tables). BothBound t o (unify var (spell t.heap a) (spell t.heap b))) e (unify_steps t a b k (keeps_register t p k) (keeps_register t q k)))
  where
    a : Cell
    a = register t p

    b : Cell
    b = register t q

    by : (o : Option Subst) → BothBound t (Some u) o → u.choices ≡ t.choices
    by None x = absurd x
    by (Some σ) x = x.choices

choices_unify : (p q : ℕ) (left : Tables) (s : State) → Whole s → Accepted (Unify p q) s → SameChoices s (act (Unify p q) left s).1
choices_unify p q left s w a = by (unify_words s.tables (register s.tables p) (register s.tables q)) refl
  where
    by : (o : Option Tables) → unify_words s.tables (register s.tables p) (register s.tables q) ≡ o → SameChoices s (if_unified s o).1
    by None e = refl
    by (Some u) e = choices_unified s.tables u p q (none_stands s (half_none s a.0.0) w) e

choices_arg : (s : State) (d : ℕ) (o : Option ℕ) → SameChoices s (set_argument s d o).1
choices_arg s d None = refl
choices_arg s d (Some n) = refl

choices_retry : (t : Tables) (cs : List Choice) → t.choices ≡ cs → (retry_of cs t).choices ≡ cs
choices_retry t [] e = e
choices_retry t (c ∷ cs) e = refl

-- a call that goes on with a structure
choices_half : (s : State) (f : Half → Answer × State) → ((h : Half) → SameChoices s (f h).1) → SameChoices s (on_half s f).1
choices_half s f g = by s.half
  where
    by : (o : Option Half) → SameChoices s (elim o as (λ _. Answer × State) [ None ↦ (Nothing, s) | Some h ↦ f h ]).1
    by None = refl
    by (Some h) = g h

act_choices : (c : Call) (left : Tables) (s : State) → Whole s → keeps_levels c ≡ true → Accepted c s → SameChoices s (act c left s).1
act_choices (Var d) left s w k a = refl
act_choices (SetAtom d n) left s w k a = refl
act_choices (Int d z) left s w k a = refl
act_choices (Move d r) left s w k a = refl
act_choices (Look r) left s w k a = refl
act_choices (Arg d r i) left s w k a = choices_arg s d (argument s.tables r i)
act_choices (Same p q) left s w k a = refl
act_choices (Unify p q) left s w k a = choices_unify p q left s w a
act_choices Open left s w k a = absurd (both_ways false refl k)
act_choices Retry left s w k a = choices_retry s.tables s.tables.choices refl
act_choices Last left s w k a = absurd (both_ways false refl k)
act_choices (Cut n) left s w k a = absurd (both_ways false refl k)
act_choices (Start name arity) left s w k a = refl
act_choices (Put slip r) left s w k a = choices_half s _ (λ h. refl)
act_choices (Hole slip) left s w k a = choices_half s _ (λ h. refl)
act_choices (Done slip d) left s w k a = choices_half s _ (λ h. refl)
act_choices (Void slip) left s w k a = choices_half s _ (λ h. refl)
act_choices Collect left s w k a = absurd (both_ways false refl k)
act_choices Usage left s w k a = refl

step_choices : (c : Call) (left : Tables) (s : State) → Whole s → keeps_levels c ≡ true → SameChoices s (step c left s).1
step_choices c left s w k = step_either (SameChoices s) c left s refl (act_choices c left s w k)

-- what the oldest of them goes back to

abbrev levels_of : Tables → ℕ × Option Tables
levels_of t = (length t.choices, oldest_of t.choices t)

levels_same : (t u : Tables) → u.choices ≡ t.choices → (HasChoice t → last u ≡ last t) → levels_of u ≡ levels_of t
levels_same t u e f = ap₂ (λ (n : ℕ) (o : Option Tables). (n, o)) (ap length e) (ap (λ (cs : List Choice). oldest_of cs u) e ∙ by t.choices f)
  where
    by : (cs : List Choice) → (0 < length cs → last u ≡ last t) → oldest_of cs u ≡ oldest_of cs t
    by [] g = refl
    by (c ∷ cs) g = ap (λ (x : Tables). Some (undo x (length cs))) (g (omega arith))

-- a call that opens no choice point and leaves none
pub levels_after : (c : Call) (s t : Store) (a : Answer) → keeps_levels c ≡ true → (a, state t) ≡ called c s → levels t ≡ levels s
levels_after c s t a k e =
    let left = tables_of s.memory in
    let u = (step c left (state s)).1 in
    ap (λ (x : Answer × State). levels_of x.1.tables) e
    ∙ levels_same (state s).tables u.tables (step_choices c left (state s) (whole s) k) (levels_kept c left (state s) (whole s) k)

-- the structure that is half made

abbrev pub keeps_half : Call → Bool
keeps_half (Var d) = true
keeps_half (SetAtom d n) = true
keeps_half (Int d z) = true
keeps_half (Move d s) = true
keeps_half (Look s) = true
keeps_half (Arg d s i) = true
keeps_half (Same s t) = true
keeps_half (Unify s t) = true
keeps_half Open = true
keeps_half Retry = true
keeps_half Last = true
keeps_half (Cut k) = true
keeps_half (Start name arity) = false
keeps_half (Put slip s) = false
keeps_half (Hole slip) = false
keeps_half (Done slip d) = false
keeps_half (Void slip) = false
keeps_half Collect = true
keeps_half Usage = true

half_arg : (s : State) (d : ℕ) (o : Option ℕ) → (set_argument s d o).1.half ≡ s.half
half_arg s d None = refl
half_arg s d (Some n) = refl

half_unify : (s : State) (o : Option Tables) → (if_unified s o).1.half ≡ s.half
half_unify s None = refl
half_unify s (Some t) = refl

act_half : (c : Call) (left : Tables) (s : State) → keeps_half c ≡ true → (act c left s).1.half ≡ s.half
act_half (Var d) left s k = refl
act_half (SetAtom d n) left s k = refl
act_half (Int d z) left s k = refl
act_half (Move d r) left s k = refl
act_half (Look r) left s k = refl
act_half (Arg d r i) left s k = half_arg s d (argument s.tables r i)
act_half (Same p q) left s k = refl
act_half (Unify p q) left s k = half_unify s (unify_words s.tables (register s.tables p) (register s.tables q))
act_half Open left s k = refl
act_half Retry left s k = refl
act_half Last left s k = refl
act_half (Cut n) left s k = refl
act_half (Start name arity) left s k = absurd (both_ways false refl k)
act_half (Put slip r) left s k = absurd (both_ways false refl k)
act_half (Hole slip) left s k = absurd (both_ways false refl k)
act_half (Done slip d) left s k = absurd (both_ways false refl k)
act_half (Void slip) left s k = absurd (both_ways false refl k)
act_half Collect left s k = refl
act_half Usage left s k = refl

pub half_after : (c : Call) (s t : Store) (a : Answer) → keeps_half c ≡ true → (a, state t) ≡ called c s → half_in t ≡ half_in s
half_after c s t a k e =
    ap (λ (x : Answer × State). x.1.half) e ∙ step_either (λ x. x.half ≡ (state s).half) c (tables_of s.memory) (state s) refl (λ _. act_half c (tables_of s.memory) (state s) k)

pub base_after : (c : Call) (s t : Store) (a : Answer) → keeps_levels c ≡ true → keeps_half c ≡ true → (a, state t) ≡ called c s → base t ≡ base s
base_after c s t a k h e = ap₂ (λ (x : Option Half) (y : ℕ × Option Tables). (x, y)) (half_after c s t a h e) (levels_after c s t a k e)
