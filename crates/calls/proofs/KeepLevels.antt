-- The calls that open no choice point and leave none keep what the newest choice point goes back to.
use Rattle.std.proofs.Common.{◌≡◌, ℕ, true, false, [], ◌∷◌, ◌++◌, replicate, sym, refl, ap, ◌∙◌, inl, inr, Option, Some, None}
use Rattle.std.proofs.lemmas.Bool.{both_ways}
use Rattle.cells.specs.declared.cell.Cell.{Cell}
use Rattle.cells.specs.declared.cell.Cell.TheVariants.{Reference, Pointer, Functor, Atom, Integer}
use Rattle.tables.specs.Tables.{Tables, used, cell_at, register}
use Rattle.heaps.specs.Levels.{last}
use Rattle.heaps.specs.LevelLaws.{HasChoice, new_variable}
use Rattle.heaps.proofs.LastLaws.{last_push_choice, last_set_register, last_more}
use Rattle.heaps.proofs.UndoRules.{retry_last}
use Rattle.heaps.proofs.KeptWords.{keeps_register}
use Rattle.calls.specs.declared.Draft.{Draft}
use Rattle.calls.specs.declared.Call.{Call}
use Rattle.calls.specs.declared.Call.TheVariants.{Var, Atom as SetAtom, Int, Move, Look, Arg, Same, Unify, Open, Retry, Last, Cut, Start, Put, Hole, Done, Void, Collect, Usage}
use Rattle.calls.specs.declared.Answer.{Answer}
use Rattle.calls.specs.Unifying.{unify_words}
use Rattle.calls.specs.Steps.{Half, State, argument, set_argument, if_unified, next_argument, act}
use Rattle.calls.specs.Whole.{without, HalfStands, Whole}
use Rattle.calls.specs.KeepLaws.{keeps_levels}
use Rattle.calls.proofs.KeepUnify.{unify_keeps}
use Rattle.calls.proofs.KeepHalf.{without_making, half_parts, filled, fewer, half_written}
use Rattle.calls.proofs.KeepSteps.{Accepted, half_none, none_stands, half_some, some_stands, on_half_some, missing_some}

-- An accepted call keeps the older levels.
abbrev Levelled : Call → Type 0
Levelled c = (left : Tables) (s : State) → Whole s → HasChoice s.tables → Accepted c s → last (act c left s).1.tables ≡ last s.tables

level_var : (d : ℕ) → Levelled (Var d)
level_var d left s w has a = let t = s.tables in let o = none_stands s (half_none s a.0.0) w in
    last_set_register (new_variable t) has d (Reference (used t)) ∙ last_more t o.0.tops has (Reference (used t) ∷ [])

level_arg : (d r i : ℕ) → Levelled (Arg d r i)
level_arg d r i left s w has a = by (argument s.tables r i)
  where
    by : (o : Option ℕ) → last (set_argument s d o).1.tables ≡ last s.tables
    by None = refl
    by (Some n) = last_set_register s.tables has d (cell_at s.tables n)

level_unify : (p q : ℕ) → Levelled (Unify p q)
level_unify p q left s w has a = by (unify_words t (register t p) (register t q)) refl
  where
    t : Tables
    t = s.tables

    by : (o : Option Tables) → unify_words t (register t p) (register t q) ≡ o → last (if_unified s o).1.tables ≡ last t
    by None x = refl
    by (Some u) x = let k = none_stands s (half_none s a.0.0) w in (unify_keeps t u (register t p) (register t q) k (keeps_register t p k) (keeps_register t q k) x).1 has

level_retry : Levelled Retry
level_retry left s w has a = let o = none_stands s (half_none s a.0.0) w in ap last (retry_last s.tables o.0 has) ∙ last_push_choice (last s.tables)

level_start : (name arity : ℕ) → Levelled (Start name arity)
level_start name arity left s w has a = let o = none_stands s (half_none s a.0.0) w in last_more s.tables o.0.tops has (Functor name arity ∷ replicate arity (Atom 0))

-- The newest choice point is older than a half-made structure.
half_last : (t : Tables) (h : Half) → HalfStands t h → HasChoice t → last t ≡ last (without t h)
half_last = half_parts (λ t h. HasChoice t → last t ≡ last (without t h)) (λ old name arity args m p has.
    last_more old p.stands.0.tops has (Functor name arity ∷ (args ++ replicate m (Atom 0))) ∙ ap last (sym (without_making old name arity args m)))

last_filled : (t : Tables) (h : Half) (w : Cell) → HasChoice t → HalfStands t h → HalfStands (filled t h w) (fewer h) × (without (filled t h w) (fewer h) ≡ without t h) → last (filled t h w) ≡ last t
last_filled t h w has o n = half_last (filled t h w) (fewer h) n.0 has ∙ ap last n.1 ∙ sym (half_last t h o has)

level_put : (slip : Draft) (r : ℕ) → Levelled (Put slip r)
level_put slip r left s w has a = let x = half_some s slip a.0.0 in let h = x.half in let o = some_stands s h x.is w in
    ap (λ (y : Answer × State). last y.1.tables) (on_half_some s h _ x.is)
    ∙ last_filled s.tables h (register s.tables r) has o (half_written s.tables h o (register s.tables r) (missing_some s slip x a.0.1.1.0) (inl (keeps_register _ r o.before)))

level_hole : (slip : Draft) → Levelled (Hole slip)
level_hole slip left s w has a = let x = half_some s slip a.0.0 in let h = x.half in let o = some_stands s h x.is w in let n = Reference (next_argument s.tables h) in
    ap (λ (y : Answer × State). last y.1.tables) (on_half_some s h _ x.is)
    ∙ last_filled s.tables h n has o (half_written s.tables h o n (missing_some s slip x a.0.1.0) (inr refl))

level_done : (slip : Draft) (d : ℕ) → Levelled (Done slip d)
level_done slip d left s w has a = let x = half_some s slip a.0.0 in
    ap (λ (y : Answer × State). last y.1.tables) (on_half_some s x.half _ x.is) ∙ last_set_register s.tables has d (Pointer x.half.at)

level_void : (slip : Draft) → Levelled (Void slip)
level_void slip left s w has a = let x = half_some s slip a.0.0 in
    ap (λ (y : Answer × State). last y.1.tables) (on_half_some s x.half _ x.is) ∙ sym (half_last s.tables x.half (some_stands s x.half x.is w) has)

pub act_levels : (c : Call) (left : Tables) (s : State) → Whole s → keeps_levels c ≡ true → HasChoice s.tables → Accepted c s → last (act c left s).1.tables ≡ last s.tables
act_levels (Var d) left s w k has a = level_var d left s w has a
act_levels (SetAtom d n) left s w k has a = last_set_register s.tables has d (Atom n)
act_levels (Int d z) left s w k has a = last_set_register s.tables has d (Integer z)
act_levels (Move d r) left s w k has a = last_set_register s.tables has d (register s.tables r)
act_levels (Look r) left s w k has a = refl
act_levels (Arg d r i) left s w k has a = level_arg d r i left s w has a
act_levels (Same p q) left s w k has a = refl
act_levels (Unify p q) left s w k has a = level_unify p q left s w has a
act_levels Open left s w k has a = absurd (both_ways false refl k)
act_levels Retry left s w k has a = level_retry left s w has a
act_levels Last left s w k has a = absurd (both_ways false refl k)
act_levels (Cut n) left s w k has a = absurd (both_ways false refl k)
act_levels (Start name arity) left s w k has a = level_start name arity left s w has a
act_levels (Put slip r) left s w k has a = level_put slip r left s w has a
act_levels (Hole slip) left s w k has a = level_hole slip left s w has a
act_levels (Done slip d) left s w k has a = level_done slip d left s w has a
act_levels (Void slip) left s w k has a = level_void slip left s w has a
act_levels Collect left s w k has a = absurd (both_ways false refl k)
act_levels Usage left s w k has a = refl
