-- A set has at most as many members below n as there are numbers, and one more once a new cell joins it.
use Rattle.std.proofs.Common.{◌≡◌, ℕ, zero, suc, ◌+◌, ◌<◌, ◌≤◌, Bool, true, false, cond, ◌||◌, ◌≢◌, refl, ap, ◌∙◌, ap₂, ⊎_elim, arith}
use Rattle.std.proofs.lemmas.Bool.{cases_eq, cases_Bool, cond-true, cond-false, eq-eqb, ne_eqb}
use Rattle.marks.specs.Sets.{with_cell, count_below}
use Rattle.marks.proofs.Sets.{with_below}

pub count_le : (s : ℕ → Bool) (n : ℕ) → count_below s n ≤ n
unfolding count_below
count_le s zero = omega arith
count_le s (suc n) =
    let r = count_le s n in
    ⊎_elim
    (λ e. let one : ◌≡◌ {A = ℕ} (cond (s n) 1 0) 1 = cond-true (s n) 1 0 e in omega arith)
    (λ e. let none : ◌≡◌ {A = ℕ} (cond (s n) 1 0) 0 = cond-false (s n) 1 0 e in omega arith)
    (cases_Bool (s n))

module _ (s t : ℕ → Bool) where
  pub count_same : (m : ℕ) → ((k : ℕ) → k < m → t k ≡ s k) → count_below t m ≡ count_below s m
  unfolding count_below
  count_same zero same = refl
  count_same (suc m) same =
      ap₂ (λ a (b : Bool). a + cond b 1 0) (count_same m (λ k h. same k (omega arith))) (same m (omega arith))

  module _ (n : ℕ) (new : s n ≡ false) (here : t n ≡ true) (others : (k : ℕ) → k ≢ n → t k ≡ s k) where
    count_one_more : (m : ℕ) → n < m → count_below t m ≡ count_below s m + 1
    unfolding count_below
    count_one_more zero h = absurd (omega arith)
    count_one_more (suc m) h =
        ⊎_elim
        (λ (e : m ≡ n).
        let below : count_below t m ≡ count_below s m = count_same m (λ k low. others k (omega arith)) in
        let one : ◌≡◌ {A = ℕ} (cond (t m) 1 0) 1 = cond-true (t m) 1 0 (ap t e ∙ here) in
        let none : ◌≡◌ {A = ℕ} (cond (s m) 1 0) 0 = cond-false (s m) 1 0 (ap s e ∙ new) in
        omega arith)
        (λ (ne : m ≡ n → ⊥).
        let below : count_below t m ≡ count_below s m + 1 = count_one_more m (omega arith) in
        let at : ◌≡◌ {A = ℕ} (cond (t m) 1 0) (cond (s m) 1 0) = ap (λ (b : Bool). cond b 1 0) (others m ne) in
        omega arith)
        (cases_eq m n)

module _ (s : ℕ → Bool) (n : ℕ) (cell : n < 4096) where
  pub with_here : with_cell s n n ≡ true
  with_here = ap (λ (f : ℕ → Bool). f n) (with_below s n cell) ∙ ap (λ b. b || s n) (eq-eqb n n refl)

  pub with_other : (k : ℕ) → k ≢ n → with_cell s n k ≡ s k
  with_other k ne = ap (λ (f : ℕ → Bool). f k) (with_below s n cell) ∙ ap (λ b. b || s k) (ne_eqb k n ne)

  -- a new cell makes the set larger by one
  pub count_with : s n ≡ false → count_below (with_cell s n) 4096 ≡ count_below s 4096 + 1
  count_with new = count_one_more s (with_cell s n) n new with_here with_other 4096 cell
