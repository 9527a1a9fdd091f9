-- How counts of members compare: with the numbers looked through, with an equal set, and with one member more.
use Rattle.std.proofs.Common.{◌≡◌, ℕ, zero, suc, ◌+◌, ◌<◌, ◌≤◌, Bool, true, false, cond, refl, ap, ◌∙◌, ap₂, ⊎_elim, arith}
use Rattle.std.proofs.lemmas.Bool.{cases_eq}
use Rattle.marks.specs.Sets.{count_below}

-- what a test adds to the count
abbrev worth : Bool → ℕ
worth b = cond b 1 0

pub count_at_most : (s : ℕ → Bool) (n : ℕ) → count_below s n ≤ n
unfolding count_below
count_at_most s zero = omega arith
count_at_most s (suc n) = by (s n) (count_at_most s n)
  where
    by : (b : Bool) → count_below s n ≤ n → count_below s n + worth b ≤ suc n
    by true le = omega arith
    by false le = omega arith

-- sets that agree below n have as many members there
pub count_same : (s r : ℕ → Bool) (n : ℕ) → ((k : ℕ) → k < n → s k ≡ r k) → count_below s n ≡ count_below r n
unfolding count_below
count_same s r zero e = refl
count_same s r (suc n) e =
    ap₂ (λ (a : ℕ) (b : Bool). a + worth b) (count_same s r n (λ k lt. e k (omega arith))) (e n (omega arith))

-- one member more counts one more
pub count_added : (s r : ℕ → Bool) (x n : ℕ) → x < n → s x ≡ false → r x ≡ true → ((k : ℕ) → (k ≡ x → ⊥) → r k ≡ s k)
    → count_below r n ≡ suc (count_below s n)
unfolding count_below
count_added s r x zero lt out is same = absurd (omega arith)
count_added s r x (suc n) lt out is same = ⊎_elim here (λ ne. there ne (count_added s r x n (omega arith) out is same)) (cases_eq n x)
  where
    here : n ≡ x → count_below r n + worth (r n) ≡ suc (count_below s n + worth (s n))
    here e =
        let below = count_same r s n (λ k le. same k (λ q. omega arith)) in
        let one : worth (r n) ≡ 1 = ap worth (ap r e ∙ is) in
        let no : worth (s n) ≡ 0 = ap worth (ap s e ∙ out) in
        omega arith

    there : (n ≡ x → ⊥) → count_below r n ≡ suc (count_below s n) → count_below r n + worth (r n) ≡ suc (count_below s n + worth (s n))
    there ne below =
        let alike : worth (r n) ≡ worth (s n) = ap worth (same n ne) in
        omega arith

-- numbers that are no members add nothing
pub count_past : (s : ℕ → Bool) (n d : ℕ) → ((k : ℕ) → n ≤ k → s k ≡ false) → count_below s (n + d) ≡ count_below s n
unfolding count_below
count_past s n zero out = ap (count_below s) (omega arith)
count_past s n (suc d) out =
    let next : n + suc d ≡ suc (n + d) = omega arith in
    let none : worth (s (n + d)) ≡ 0 = ap worth (out (n + d) (omega arith)) in
    let before = count_past s n d out in
    ap (count_below s) next ∙ omega arith
