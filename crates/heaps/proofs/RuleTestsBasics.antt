-- What the proofs about tests share: a test that is nowhere true, members of a list by their places,
-- and choice points counted from the oldest.
use Rattle.std.proofs.Common.{◌≡◌, ℕ, zero, suc, ◌+◌, ◌-◌, ◌<◌, ◌≤◌, Bool, true, false, List, [], ◌∷◌, length, get_or, sym, refl, subst, inl, inr, arith}
use Rattle.std.proofs.lemmas.Bool.{both_ways, cases_eq, or_cases, or_parts, or_from, or_left, or_right}
use Rattle.tables.specs.Tables.{Choice, Tables, no_choice}
use Rattle.heaps.specs.Lists.{Each}
use Rattle.heaps.specs.Reached.{any_from}
use Rattle.heaps.specs.RuleTests.{any_of, oldest}

pub not_so : (b : Bool) → (b ≡ true → ⊥) → b ≡ false
not_so true f = absurd (f refl)
not_so false f = refl

module _ (p : ℕ → Bool) where
  pub none_from : (n m : ℕ) → any_from n m p ≡ false → (i : ℕ) → n ≤ i → i < n + m → p i ≡ false
  none_from n zero e i a b = absurd (omega arith)
  none_from n (suc m) e i a b =
      let r = or_parts (p n) (any_from (suc n) m p) e in
      elim (cases_eq n i) [
        | inl q ↦ subst (λ (k : ℕ). p k ≡ false) q r.0
        | inr q ↦ none_from (suc n) m r.1 i (omega arith) (omega arith)
      ]

  pub from_none : (n m : ℕ) → ((i : ℕ) → n ≤ i → i < n + m → p i ≡ false) → any_from n m p ≡ false
  from_none n zero f = refl
  from_none n (suc m) f =
      or_from (p n) (any_from (suc n) m p) (f n (omega arith) (omega arith)) (from_none (suc n) m (λ i a b. f i (omega arith) (omega arith)))

  pub some_from : (n m : ℕ) → any_from n m p ≡ true → (i : ℕ) × (n ≤ i) × (i < n + m) × (p i ≡ true)
  some_from n zero e = absurd (both_ways false refl e)
  some_from n (suc m) e =
      elim (or_cases (p n) (any_from (suc n) m p) e) [
        | inl q ↦ (n, omega arith, omega arith, q)
        | inr q ↦ let r = some_from (suc n) m q in (r.0, omega arith, omega arith, r.3)
      ]

  pub from_some : (n m i : ℕ) → n ≤ i → i < n + m → p i ≡ true → any_from n m p ≡ true
  from_some n zero i a b e = absurd (omega arith)
  from_some n (suc m) i a b e =
      elim (cases_eq n i) [
        | inl q ↦ or_left (p n) (any_from (suc n) m p) (subst (λ (k : ℕ). p k ≡ true) (sym q) e)
        | inr q ↦ or_right (p n) (any_from (suc n) m p) (from_some (suc n) m i (omega arith) (omega arith) e)
      ]

module _ {A : Type 0} (P : A → Type 0) where
  pub each_at : (xs : List A) (d : A) → Each P xs → (i : ℕ) → i < length xs → P (get_or xs i d)
  each_at [] d h i lt = absurd (omega arith)
  each_at (x ∷ xs) d h zero lt = h.0
  each_at (x ∷ xs) d h (suc i) lt = each_at xs d h.1 i (omega arith)

  pub at_each : (xs : List A) (d : A) → ((i : ℕ) → i < length xs → P (get_or xs i d)) → Each P xs
  at_each [] d f = tt
  at_each (x ∷ xs) d f = (f 0 (omega arith), at_each xs d (λ i lt. f (suc i) (omega arith)))

  -- a test that decides the opposite of P decides whether it fails somewhere
  module _ (p : A → Bool) where
    pub any_none : ((x : A) → P x → p x ≡ false) → (xs : List A) → Each P xs → any_of p xs ≡ false
    any_none f [] h = refl
    any_none f (x ∷ xs) h = or_from (p x) (any_of p xs) (f x h.0) (any_none f xs h.1)

    pub none_any : ((x : A) → p x ≡ false → P x) → (xs : List A) → any_of p xs ≡ false → Each P xs
    none_any f [] e = tt
    none_any f (x ∷ xs) e = let r = or_parts (p x) (any_of p xs) e in (f x r.0, none_any f xs r.1)

module _ (t : Tables) (P : Choice → Type 0) where
  pub each_oldest : Each P t.choices → (p : ℕ) → p < length t.choices → P (oldest t p)
  each_oldest h p lt = each_at P t.choices no_choice h (length t.choices - suc p) (omega arith)

  pub oldest_each : ((p : ℕ) → p < length t.choices → P (oldest t p)) → Each P t.choices
  oldest_each f =
      at_each P t.choices no_choice (λ k lt.
      let back : length t.choices - suc (length t.choices - suc k) ≡ k = omega arith in
      subst (λ (q : ℕ). P (get_or t.choices q no_choice)) back (f (length t.choices - suc k) (omega arith)))
