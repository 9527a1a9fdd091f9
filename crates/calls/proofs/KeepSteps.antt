-- What an accepted call tells of the state: none of its tests hit, and there are enough cells.
use Rattle.std.proofs.Common.{◌≡◌, ℕ, ◌+◌, ◌<◌, ◌≤◌, Bool, true, false, cond, eqb, ltb, List, [], ◌∷◌, length, sym, refl, ap, subst, arith, Option, Some, None}
use Rattle.std.proofs.lemmas.Bool.{both_ways, not-false, ltb-false, eqb-true, eqb-false, and_parts}
use Rattle.cells.specs.declared.refusal.Refusal.{Refusal}
use Rattle.tables.specs.Tables.{Tables, used}
use Rattle.heaps.specs.Lists.{Each}
use Rattle.heaps.specs.LevelLaws.{Stands}
use Rattle.calls.specs.declared.Draft.{Draft}
use Rattle.calls.specs.declared.Call.{Call}
use Rattle.calls.specs.declared.Answer.{Answer}
use Rattle.calls.specs.declared.Answer.TheVariants.{Nothing}
use Rattle.calls.specs.Refusals.{first_hit, same_draft, wrong_slip, tests, cells_needed}
use Rattle.std.specs.Option.{is_some}
use Rattle.calls.specs.Steps.{Half, State, keeping, draft_of, draft, lacks_argument, on_half, act, unless, refusal_of, step}
use Rattle.calls.specs.Whole.{HalfStands, WholeWith, Whole}

-- No test hits.
abbrev pub Missed : List (Refusal × Bool) → Type 0
Missed tests = Each (λ x. x.1 ≡ false) tests

abbrev tests_of : Call → State → List (Refusal × Bool)
tests_of c s = tests (draft s) (length s.tables.choices) (lacks_argument s.tables) c

-- The call c is accepted.
abbrev pub Accepted : Call → State → Type 0
Accepted c s = Missed (tests_of c s) × (used s.tables + cells_needed c ≤ 4096)

missed : (xs : List (Refusal × Bool)) → first_hit xs ≡ None → Missed xs
missed [] e = tt
missed (x ∷ xs) e = by x.1 refl e (missed xs)
  where
    by : (b : Bool) → x.1 ≡ b → cond b (Some x.0) (first_hit xs) ≡ None → (first_hit xs ≡ None → Missed xs) → Missed (x ∷ xs)
    by true p q ih = absurd (both_ways true (ap is_some q) refl)
    by false p q ih = (p, ih q)

-- What holds of the state, and of what an accepted call makes of it, holds of what the call makes of it.
pub step_either : (P : State → Type 0) (c : Call) (left : Tables) (s : State) → P s → (Accepted c s → P (act c left s).1) → P (step c left s).1
step_either P c left s p f = by (refusal_of c s) (ltb 4096 (used s.tables + cells_needed c)) (λ a b. f (missed (tests_of c s) a, ltb-false 4096 (used s.tables + cells_needed c) b))
  where
    by : (o : Option Refusal) (b : Bool) → (o ≡ None → b ≡ false → P (act c left s).1) → P (unless o b s (act c left s)).1
    by (Some why) b g = p
    by None true g = p
    by None false g = g refl refl

-- A call that answers nothing was accepted.
pub step_accepted : (c : Call) (left : Tables) (s : State) → (step c left s).0 ≡ Nothing → Accepted c s × (step c left s ≡ act c left s)
step_accepted c left s e = by (refusal_of c s) (ltb 4096 (used s.tables + cells_needed c)) refl refl e
  where
    by : (o : Option Refusal) (b : Bool) → refusal_of c s ≡ o → ltb 4096 (used s.tables + cells_needed c) ≡ b → (unless o b s (act c left s)).0 ≡ Nothing
        → Accepted c s × (unless o b s (act c left s) ≡ act c left s)
    by (Some why) b p q r = absurd (let z : ◌≡◌ {A = ℕ} 0 1 = cc in omega arith)
    by None true p q r = absurd (let z : ◌≡◌ {A = ℕ} 0 1 = cc in omega arith)
    by None false p q r = ((missed (tests_of c s) p, ltb-false 4096 (used s.tables + cells_needed c) q), refl)

-- No structure is half made.

pub half_none : (s : State) → is_some (draft s) ≡ false → s.half ≡ None
half_none s e = by s.half e
  where
    by : (o : Option Half) → is_some {T = Draft} (elim o [ None ↦ None | Some h ↦ Some (draft_of s.tables h) ]) ≡ false → o ≡ None
    by None q = refl
    by (Some h) q = absurd (both_ways true q refl)

pub none_stands : (s : State) → s.half ≡ None → Whole s → Stands s.tables
none_stands s e w = subst (WholeWith s.tables) e w

pub none_whole : (s : State) (t : Tables) → s.half ≡ None → Stands t → Whole (keeping s t)
none_whole s t e w = subst (WholeWith t) (sym e) w

-- A structure is half made, and the slip is its own.

pub record Slipped (s : State) (slip : Draft) : Type 0 where
  pub half : Half
  pub is : s.half ≡ Some half
  pub missing : half.missing ≡ slip.missing

pub half_some : (s : State) (slip : Draft) → wrong_slip (draft s) slip ≡ false → Slipped s slip
half_some s slip e = by s.half refl e
  where
    by : (o : Option Half) → s.half ≡ o → wrong_slip (elim o [ None ↦ None | Some h ↦ Some (draft_of s.tables h) ]) slip ≡ false → Slipped s slip
    by None p q = absurd (both_ways true q refl)
    by (Some h) p q = record {
      half = h;
      is = p;
      missing = let d = draft_of s.tables h in
          eqb-true h.missing slip.missing (and_parts (eqb d.arity slip.arity) (eqb d.missing slip.missing) (and_parts (eqb d.name slip.name) _ (not-false (same_draft d slip) q)).1).1;
    }

pub some_stands : (s : State) (h : Half) → s.half ≡ Some h → Whole s → HalfStands s.tables h
some_stands s h e w = subst (WholeWith s.tables) e w

pub on_half_some : (s : State) (h : Half) (f : Half → Answer × State) → s.half ≡ Some h → on_half s f ≡ f h
on_half_some s h f e = ap (λ (o : Option Half). elim o [ None ↦ (Nothing, s) | Some k ↦ f k ]) e

-- an argument is missing, since the slip says so
pub missing_some : (s : State) (slip : Draft) (x : Slipped s slip) → eqb slip.missing 0 ≡ false → 0 < x.half.missing
missing_some s slip x e = let a = eqb-false slip.missing 0 e in let b = x.missing in omega arith
