-- A word joined with 2 ^ j by `or` has bit j set, and its other bits as they were.

use Rattle.std.proofs.Common.{◌≡◌, ℕ, zero, suc, ◌+◌, ◌-◌, ◌*◌, ◌/◌, ◌%◌, ◌^◌, ◌<◌, true, eqb, ◌≢◌, sym, refl, ap, ◌∙◌, subst, ⊎_elim, mod-lt, arith, pow-add}
use native.Mathlib.Nat.{div-eq_of_lt}
use lib.Bits.{bit_or, or_shr, or_mod, or_zero_r}
use lib.Pow.{pow-lt, shl-shr}
use Rattle.std.proofs.lemmas.Bool.{cases_order}
use Rattle.marks.specs.Keepers.{bit}

-- bit i of `or` is the `or` of the two bits i
or_bit : (w v i : ℕ) → (bit_or w v / 2 ^ i) % 2 ≡ bit_or ((w / 2 ^ i) % 2) ((v / 2 ^ i) % 2)
or_bit w v i = ap (λ x. x % 2) (or_shr w v i) ∙ or_mod (w / 2 ^ i) (v / 2 ^ i) 1

power_same : (i : ℕ) → (2 ^ i / 2 ^ i) % 2 ≡ 1
power_same i = let e : 2 ^ i ≡ 1 * 2 ^ i = omega arith in ap (λ x. (x / 2 ^ i) % 2) e ∙ ap (λ x. x % 2) (shl-shr 1 i)

power_above : (i d : ℕ) → (2 ^ (1 + d + i) / 2 ^ i) % 2 ≡ 0
power_above i d =
    ap (λ x. (x / 2 ^ i) % 2) (pow-add 2 (1 + d) i)
    ∙ ap (λ x. x % 2) (shl-shr (2 ^ (1 + d)) i)
    ∙ ap (λ x. x % 2) (pow-add 2 1 d)
    ∙ omega arith

power_other : (i j : ℕ) → i ≢ j → (2 ^ j / 2 ^ i) % 2 ≡ 0
power_other i j ne =
    ⊎_elim
    (λ e. absurd (ne e))
    (⊎_elim
    (λ lt. let e : j ≡ 1 + (j - i - 1) + i = omega arith in subst (λ x. (2 ^ x / 2 ^ i) % 2 ≡ 0) (sym e) (power_above i (j - i - 1)))
    (λ lt. ap (λ x. x % 2) (div-eq_of_lt (pow-lt lt))))
    (cases_order i j)

or_one : (x : ℕ) → x < 2 → bit_or x 1 ≡ 1
or_one zero h = refl
or_one (suc zero) h = refl
or_one (suc (suc x)) h = absurd (omega arith)

module _ (w : ℕ) where
  pub or_same : (i : ℕ) → bit (bit_or w (2 ^ i)) i ≡ true
  or_same i =
      ap (λ x. eqb x 1)
      (or_bit w (2 ^ i) i
      ∙ ap (λ x. bit_or ((w / 2 ^ i) % 2) x) (power_same i)
      ∙ or_one _ (mod-lt (w / 2 ^ i) (omega arith)))

  pub or_other : (i j : ℕ) → i ≢ j → bit (bit_or w (2 ^ j)) i ≡ bit w i
  or_other i j ne =
      ap (λ x. eqb x 1)
      (or_bit w (2 ^ j) i ∙ ap (λ x. bit_or ((w / 2 ^ i) % 2) x) (power_other i j ne) ∙ or_zero_r _)
