-- The laws of calls, from what each accepted call does.
use Rattle.std.proofs.Common.{◌≡◌, true, List, [], ◌∷◌, length, sym, refl, ap, ◌∙◌, arith, Option, Some, None}
use Rattle.std.proofs.lemmas.Bool.{both_ways, eqb-false}
use Rattle.tables.specs.Tables.{Tables}
use Rattle.heaps.specs.Lists.{Each}
use Rattle.heaps.specs.Levels.{last, undo}
use Rattle.heaps.specs.LevelLaws.{Stands}
use Rattle.heaps.proofs.SetUpRules.{stands_set_up}
use Rattle.heaps.proofs.LastLaws.{last_push_choice}
use Rattle.heaps.proofs.CutLaws.{undo_keep_choices}
use Rattle.heaps.proofs.UndoRules.{retry_last}
use Rattle.calls.specs.declared.Call.{Call}
use Rattle.calls.specs.declared.Call.TheVariants.{Open, Retry, Last, Cut}
use Rattle.calls.specs.declared.Answer.{Answer}
use Rattle.calls.specs.Steps.{Half, State, step}
use Rattle.calls.specs.Whole.{WholeWith, Whole}
use Rattle.calls.specs.KeepLaws.{WholeStart, WholeTables, StepKeeps, LevelsKept, LevelOpened, LevelRetried, LevelLeft, LevelsCut, settled, builds, step_all, VoidBack}
use Rattle.calls.proofs.KeepHalf.{half_tables}
use Rattle.calls.proofs.KeepSteps.{step_either, step_accepted, half_none, none_stands}
use Rattle.calls.proofs.KeepCalls.{act_keeps}
use Rattle.calls.proofs.KeepLevels.{act_levels}
use Rattle.calls.proofs.KeepSettled.{settled_none, settled_kept}

pub whole_start : WholeStart
whole_start = stands_set_up

pub whole_tables : WholeTables
whole_tables s w = by s.half w
  where
    by : (o : Option Half) → WholeWith s.tables o → Stands s.tables
    by None x = x
    by (Some h) x = (half_tables s.tables h x).0

pub step_keeps : StepKeeps
step_keeps c left s w l = step_either Whole c left s w (act_keeps c left s w l)

pub levels_kept : LevelsKept
levels_kept c left s w k has = step_either (λ x. last x.tables ≡ last s.tables) c left s refl (act_levels c left s w k has)

-- a call that goes on with a structure is no call of a collector
still_whole : (c : Call) (left : Tables) (s : State) → Whole s → builds c ≡ true → Whole (step c left s).1
still_whole c left s w k = step_keeps c left s w (λ e. absurd (both_ways (builds c) (ap builds e) k))

settled_all : (cs : List Call) (left : Tables) (s : State) → Whole s → Each (λ c. builds c ≡ true) cs → settled (step_all cs left s) ≡ settled s
settled_all [] left s w k = refl
settled_all (c ∷ cs) left s w k = settled_all cs left (step c left s).1 (still_whole c left s w k.0) k.1 ∙ settled_kept c left s w k.0

pub void_back : VoidBack
void_back cs left s w k before after = sym (settled_none (step_all cs left s) after) ∙ settled_all cs left s w k ∙ settled_none s before

pub level_opened : LevelOpened
level_opened left s e = ap (λ (y : Answer × State). last y.1.tables) (step_accepted Open left s e).1 ∙ last_push_choice s.tables

pub level_retried : LevelRetried
level_retried left s w e = let a = step_accepted Retry left s e in
    ap (λ (y : Answer × State). y.1.tables) a.1
    ∙ retry_last s.tables (none_stands s (half_none s a.0.0.0) w).0 (let n = eqb-false (length s.tables.choices) 0 a.0.0.1.0 in omega arith)

pub level_left : LevelLeft
level_left left s e = ap (λ (y : Answer × State). y.1.tables) (step_accepted Last left s e).1

pub levels_cut : LevelsCut
levels_cut k j left s w e p q = let a = step_accepted (Cut k) left s e in
    ap (λ (y : Answer × State). undo y.1.tables j) a.1 ∙ undo_keep_choices s.tables k j (none_stands s (half_none s a.0.0.0) w).0.tops p q
