-- Beginning a structure, writing its arguments and giving it up change nothing else in the tables.
use Rattle.std.proofs.Common.{◌≡◌, ℕ, true, false, [], sym, refl, ap, ◌∙◌, inl, inr, Option, Some, None}
use Rattle.std.proofs.lemmas.Bool.{both_ways}
use Rattle.cells.specs.declared.cell.Cell.TheVariants.{Reference}
use Rattle.tables.specs.Tables.{Tables, register}
use Rattle.heaps.proofs.KeptWords.{keeps_register}
use Rattle.calls.specs.declared.Draft.{Draft}
use Rattle.calls.specs.declared.Call.{Call}
use Rattle.calls.specs.declared.Call.TheVariants.{Var, Atom as SetAtom, Int, Move, Look, Arg, Same, Unify, Open, Retry, Last, Cut, Start, Put, Hole, Done, Void, Collect, Usage}
use Rattle.calls.specs.declared.Answer.{Answer}
use Rattle.calls.specs.Steps.{Half, State, next_argument, act}
use Rattle.calls.specs.Whole.{without, Whole}
use Rattle.calls.specs.KeepLaws.{settled, builds, SettledKept}
use Rattle.calls.proofs.KeepHalf.{without_making, half_written}
use Rattle.calls.proofs.KeepSteps.{Accepted, step_either, half_none, half_some, some_stands, on_half_some, missing_some}

pub settled_none : (s : State) → s.half ≡ None → settled s ≡ s.tables
settled_none s e = ap (λ (o : Option Half). elim o [ None ↦ s.tables | Some h ↦ without s.tables h ]) e

settled_some : (s : State) (h : Half) → s.half ≡ Some h → settled s ≡ without s.tables h
settled_some s h e = ap (λ (o : Option Half). elim o [ None ↦ s.tables | Some k ↦ without s.tables k ]) e

-- An accepted call leaves the tables without the structure as they were.
abbrev Settling : Call → Type 0
Settling c = (left : Tables) (s : State) → Whole s → Accepted c s → settled (act c left s).1 ≡ settled s

settle_start : (name arity : ℕ) → Settling (Start name arity)
settle_start name arity left s w a = without_making s.tables name arity [] arity ∙ sym (settled_none s (half_none s a.0.0))

settle_put : (slip : Draft) (r : ℕ) → Settling (Put slip r)
settle_put slip r left s w a = let x = half_some s slip a.0.0 in let h = x.half in let o = some_stands s h x.is w in
    ap (λ (y : Answer × State). settled y.1) (on_half_some s h _ x.is)
    ∙ (half_written s.tables h o (register s.tables r) (missing_some s slip x a.0.1.1.0) (inl (keeps_register _ r o.before))).1 ∙ sym (settled_some s h x.is)

settle_hole : (slip : Draft) → Settling (Hole slip)
settle_hole slip left s w a = let x = half_some s slip a.0.0 in let h = x.half in let o = some_stands s h x.is w in
    ap (λ (y : Answer × State). settled y.1) (on_half_some s h _ x.is)
    ∙ (half_written s.tables h o (Reference (next_argument s.tables h)) (missing_some s slip x a.0.1.0) (inr refl)).1 ∙ sym (settled_some s h x.is)

settle_void : (slip : Draft) → Settling (Void slip)
settle_void slip left s w a = let x = half_some s slip a.0.0 in
    ap (λ (y : Answer × State). settled y.1) (on_half_some s x.half _ x.is) ∙ sym (settled_some s x.half x.is)

act_settled : (c : Call) (left : Tables) (s : State) → Whole s → builds c ≡ true → Accepted c s → settled (act c left s).1 ≡ settled s
act_settled (Start name arity) left s w k a = settle_start name arity left s w a
act_settled (Put slip r) left s w k a = settle_put slip r left s w a
act_settled (Hole slip) left s w k a = settle_hole slip left s w a
act_settled (Void slip) left s w k a = settle_void slip left s w a
act_settled (Var d) left s w k a = absurd (both_ways false refl k)
act_settled (SetAtom d n) left s w k a = absurd (both_ways false refl k)
act_settled (Int d z) left s w k a = absurd (both_ways false refl k)
act_settled (Move d r) left s w k a = absurd (both_ways false refl k)
act_settled (Look r) left s w k a = absurd (both_ways false refl k)
act_settled (Arg d r i) left s w k a = absurd (both_ways false refl k)
act_settled (Same p q) left s w k a = absurd (both_ways false refl k)
act_settled (Unify p q) left s w k a = absurd (both_ways false refl k)
act_settled Open left s w k a = absurd (both_ways false refl k)
act_settled Retry left s w k a = absurd (both_ways false refl k)
act_settled Last left s w k a = absurd (both_ways false refl k)
act_settled (Cut n) left s w k a = absurd (both_ways false refl k)
act_settled (Done slip d) left s w k a = absurd (both_ways false refl k)
act_settled Collect left s w k a = absurd (both_ways false refl k)
act_settled Usage left s w k a = absurd (both_ways false refl k)

pub settled_kept : SettledKept
settled_kept c left s w k = step_either (λ x. settled x ≡ settled s) c left s refl (act_settled c left s w k)
