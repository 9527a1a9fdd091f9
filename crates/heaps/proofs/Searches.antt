-- A search that stops at the first place at fault finds the lowest, and a search of a whole part tells whether there is one.
use Rattle.std.proofs.Common.{◌≡◌, ℕ, zero, suc, ◌+◌, ◌<◌, ◌≤◌, Bool, true, false, List, [], ◌∷◌, length, get_or, Some, None, Option, sym, refl, subst, inl, inr, arith}
use Rattle.std.proofs.lemmas.Bool.{cases_eq, or_from, or_left, or_right}
use Rattle.heaps.specs.RuleTests.{lowest_from, or_else, any_of}
use Rattle.heaps.proofs.RuleTestsLowest.{least_lowest}

module _ (p : ℕ → Bool) (n : ℕ) where
  pub lowest_found : (k : ℕ) → k < n → p k ≡ true → ((i : ℕ) → i < k → p i ≡ false) → lowest_from 0 n p ≡ Some k
  lowest_found k lt e f = least_lowest p 0 n (Some k) (omega arith, omega arith, e, λ i a b. f i b)

  pub lowest_none : ((i : ℕ) → i < n → p i ≡ false) → lowest_from 0 n p ≡ None
  lowest_none f = least_lowest p 0 n None (λ i a b. f i (omega arith))

pub or_none : {A : Type 0} (o : Option A) → or_else o None ≡ o
or_none None = refl
or_none (Some x) = refl

module _ {A : Type 0} (p : A → Bool) where
  pub any_at : (xs : List A) (d : A) (i : ℕ) → i < length xs → p (get_or xs i d) ≡ true → any_of p xs ≡ true
  any_at [] d i lt e = absurd (omega arith)
  any_at (x ∷ xs) d zero lt e = or_left (p x) (any_of p xs) e
  any_at (x ∷ xs) d (suc i) lt e = or_right (p x) (any_of p xs) (any_at xs d i (omega arith) e)

  pub any_not : (xs : List A) (d : A) → ((i : ℕ) → i < length xs → p (get_or xs i d) ≡ false) → any_of p xs ≡ false
  any_not [] d f = refl
  any_not (x ∷ xs) d f = or_from (p x) (any_of p xs) (f 0 (omega arith)) (any_not xs d (λ i lt. f (suc i) (omega arith)))

-- What holds of the k numbers from a on and of the next holds of one number more.
pub stretch_more : (p : ℕ → Bool) (a k m : ℕ) → ((j : ℕ) → a ≤ j → j < a + k → p j ≡ false) → m ≡ a + k → p m ≡ false
    → (j : ℕ) → a ≤ j → j < a + (k + 1) → p j ≡ false
stretch_more p a k m f e here j le lt =
    elim (cases_eq j m) [
      | inl q ↦ subst (λ (x : ℕ). p x ≡ false) (sym q) here
      | inr q ↦ f j le (omega arith)
    ]
