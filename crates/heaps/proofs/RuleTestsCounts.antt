-- A set has one member less when a member is taken out, and no more members below n than n.
use Rattle.std.proofs.Common.{◌≡◌, ℕ, zero, suc, ◌<◌, ◌≤◌, Bool, true, cond, not, ◌&&◌, eqb, refl, ap, ◌∙◌, inl, inr, arith}
use Rattle.std.proofs.lemmas.Bool.{cases_eq, eq-eqb, ne_eqb, cond_both}
use Rattle.marks.specs.Sets.{count_below}

-- the set s without x
abbrev pub without : (ℕ → Bool) → ℕ → ℕ → Bool
without s x k = not (eqb k x) && s k

count_same : (s r : ℕ → Bool) (n : ℕ) → ((k : ℕ) → k < n → s k ≡ r k) → count_below s n ≡ count_below r n
unfolding count_below
count_same s r zero f = refl
count_same s r (suc n) f =
    let e = count_same s r n (λ k lt. f k (omega arith)) in
    let d : cond {A = ℕ} (s n) 1 0 ≡ cond (r n) 1 0 = ap (λ (b : Bool). cond b 1 0) (f n (omega arith)) in
    omega arith

pub without_other : (s : ℕ → Bool) (x k : ℕ) → (k ≡ x → ⊥) → without s x k ≡ s k
without_other s x k f = ap (λ (b : Bool). not b && s k) (ne_eqb k x f)

-- Taking a member out lowers the count.
pub count_without : (s : ℕ → Bool) (x n : ℕ) → x < n → s x ≡ true → suc (count_below (without s x) n) ≡ count_below s n
unfolding count_below
count_without s x zero lt e = absurd (omega arith)
count_without s x (suc n) lt e =
    elim (cases_eq n x) [
      | inl q ↦
          let a = count_same (without s x) s n (λ k l. without_other s x k (omega arith)) in
          let b : cond {A = ℕ} (s n) 1 0 ≡ 1 = ap (λ (c : Bool). cond c 1 0) (ap s q ∙ e) in
          let d : cond {A = ℕ} (without s x n) 1 0 ≡ 0 = ap (λ (c : Bool). cond (not c && s n) 1 0) (eq-eqb n x q) in
          omega arith
      | inr q ↦
          let a = count_without s x n (omega arith) e in
          let b : cond {A = ℕ} (without s x n) 1 0 ≡ cond (s n) 1 0 = ap (λ (c : Bool). cond c 1 0) (without_other s x n q) in
          omega arith
    ]

pub count_most : (s : ℕ → Bool) (n : ℕ) → count_below s n ≤ n
unfolding count_below
count_most s zero = omega arith
count_most s (suc n) =
    let a = count_most s n in
    let b : cond {A = ℕ} (s n) 1 0 ≤ 1 = cond_both (s n) 1 0 (λ (x : ℕ). x ≤ 1) (λ e. omega arith) (λ e. omega arith) in
    omega arith
