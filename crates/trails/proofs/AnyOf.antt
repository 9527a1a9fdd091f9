-- A test that holds of some member of a list holds at some place of it.
use Rattle.std.proofs.Common.{◌≡◌, ℕ, ◌<◌, Bool, true, false, List, length, get_or, MatchBool, sym, refl, ◌∙◌, arith}
use Rattle.std.specs.List.{AllWithin, HoldsAt}
use Rattle.heaps.specs.Reached.{any_from}
use Rattle.heaps.specs.RuleTests.{any_of}
use Rattle.heaps.proofs.RuleTestsBasics.{some_from, none_from}
use Rattle.heaps.proofs.Searches.{any_at, any_not}

pub any_listed : {A : Type 0} (p : A → Bool) (xs : List A) (d : A) → any_from 0 (length xs) (λ i. p (get_or xs i d)) ≡ any_of p xs
any_listed p xs d = by (any_from 0 (length xs) at) refl
  where
    at : ℕ → Bool
    at i = p (get_or xs i d)

    by : (b : Bool) → any_from 0 (length xs) at ≡ b → any_from 0 (length xs) at ≡ any_of p xs
    by true e = let s = some_from at 0 (length xs) e in e ∙ sym (any_at p xs d s.0 (omega arith) s.3)
    by false e = e ∙ sym (any_not p xs d (λ i lt. none_from at 0 (length xs) e i (omega arith) (omega arith)))

-- What `any` over a list tells, as the test that the rules name.
pub any_told_of : {A : Type 0} (p : A → Bool) (xs : List A) (d : A) (r : Bool)
    → MatchBool r ((k : ℕ) × (k < length xs) × HoldsAt (λ x. p x ≡ true) xs k) (AllWithin (λ x. p x ≡ false) xs 0 (length xs))
    → r ≡ any_of p xs
any_told_of p xs d true h = sym (any_at p xs d h.0 h.1 (h.2 d))
any_told_of p xs d false h = sym (any_not p xs d (λ i lt. h i d (omega arith) lt))
