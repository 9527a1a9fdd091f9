-- A table of bytes in which the listed cells have a 1 and all others a 0: one more cell, and no cell.
use Rattle.std.proofs.Common.{◌≡◌, ℕ, zero, suc, ◌+◌, ◌<◌, ◌≤◌, true, false, cond, ◌≢◌, ◌⊎◌, List, [], ◌∷◌, ◌++◌, length, get_or, drop, set, replicate, sym, refl, ap, ◌∙◌, ap₂, ⊎_elim, arith, get_or-set_other, get_or-set_same}
use Rattle.std.proofs.lemmas.List.{get_or_past, drop_all}
use Rattle.std.proofs.lemmas.Bool.{cases_eq, cases_lt, cases_Bool, both_ways, cond-true, cond-false}
use Rattle.std.proofs.lemmas.Bool.Decides.{nat_tests}
use Rattle.heaps.specs.Lists.{is_in}
use Rattle.heaps.proofs.InLaws.{in_last, in_other}
use Rattle.occurring.specs.Bytes.{zeros, Ones}

-- Bytes.

-- a mark where there was none leaves one fewer
pub zeros_set : (xs : List ℕ) (i : ℕ) → i < length xs → get_or xs i 0 ≡ 0 → zeros (set xs i 1) + 1 ≡ zeros xs
zeros_set [] i h e = absurd (omega arith)
zeros_set (x ∷ xs) zero h e = grind (arith, nat_tests)
zeros_set (x ∷ xs) (suc i) h e = let r = zeros_set xs i (omega arith) e in omega arith

pub zeros_blank : (n : ℕ) → zeros (replicate n 0) ≡ n
zeros_blank zero = refl
zeros_blank (suc n) = let r = zeros_blank n in omega arith

pub ones_blank : (n : ℕ) → Ones (replicate n 0) []
ones_blank zero k = refl
ones_blank (suc n) zero = refl
ones_blank (suc n) (suc k) = ones_blank n k

pub all_zero : (xs : List ℕ) → ((k : ℕ) → get_or xs k 0 ≡ 0) → xs ≡ replicate (length xs) 0
all_zero [] z = refl
all_zero (x ∷ xs) z = ap₂ ◌∷◌ (z 0) (all_zero xs (λ k. z (suc k)))

module _ (bytes cells : List ℕ) (ones : Ones bytes cells) where
  pub absent : (n : ℕ) → get_or bytes n 0 ≡ 0 → is_in n cells ≡ false
  absent n e =
      ⊎_elim (λ (t : is_in n cells ≡ true). absurd (let one = ones n ∙ cond-true (is_in n cells) 1 0 t in omega arith)) (λ f. f) (cases_Bool (is_in n cells))

  pub present : (n : ℕ) → (get_or bytes n 0 ≡ 0 → ⊥) → is_in n cells ≡ true
  present n e =
      ⊎_elim (λ t. t) (λ (f : is_in n cells ≡ false). absurd (e (ones n ∙ cond-false (is_in n cells) 1 0 f))) (cases_Bool (is_in n cells))

  pub listed_inside : (n : ℕ) → is_in n cells ≡ true → n < length bytes
  listed_inside n t =
      ⊎_elim
      (λ (lt : n < length bytes). lt)
      (λ (ge : length bytes ≤ n). absurd (let one = ones n ∙ cond-true (is_in n cells) 1 0 t in let past = get_or_past bytes n 0 ge in omega arith))
      (cases_lt n (length bytes))

  pub ones_set : (n : ℕ) → n < length bytes → Ones (set bytes n 1) (cells ++ (n ∷ []))
  ones_set n lt k =
      ⊎_elim
      (λ (e : k ≡ n).
      ap (λ j. get_or (set bytes n 1) j 0) e ∙ get_or-set_same bytes n 1 0 lt
      ∙ sym (cond-true (is_in k (cells ++ (n ∷ []))) 1 0 (ap (λ j. is_in j (cells ++ (n ∷ []))) e ∙ in_last cells n)))
      (λ (ne : k ≢ n).
      get_or-set_other bytes n k 1 0 ne ∙ ones k ∙ ap (λ b. cond b 1 0) (sym (in_other cells n k ne)))
      (cases_eq k n)

-- The bytes that are not 0 belong to cells that are listed from place p on.
abbrev pub LeftFrom : ℕ → List ℕ → List ℕ → Type 0
LeftFrom p bytes cells = (k : ℕ) → (get_or bytes k 0 ≡ 0) ⊎ (is_in k (drop p cells) ≡ true)

pub left_none : (p : ℕ) (bytes cells : List ℕ) → length cells ≤ p → LeftFrom p bytes cells → bytes ≡ replicate (length bytes) 0
left_none p bytes cells past left =
    all_zero bytes (λ k. ⊎_elim (λ z. z) (λ t. absurd (both_ways false refl (sym (ap (is_in k) (drop_all p cells past)) ∙ t))) (left k))
