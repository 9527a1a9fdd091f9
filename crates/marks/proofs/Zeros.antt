-- Memory that holds only zeros stands for the empty set, in bytes and in bits.

use Rattle.std.proofs.Common.{◌≡◌, ℕ, zero, suc, ◌/◌, ◌%◌, ◌^◌, false, not, eqb, get_or, replicate, refl, ap, ◌∙◌}
use mathlib.Core.Path.{fun_ext}
use native.Mathlib.Nat.{zero-div}
use Rattle.std.proofs.lemmas.Bool.{and_right}
use Rattle.marks.specs.Sets.{is_cell, none}
use Rattle.marks.specs.Keepers.{byte_set, bit, bit_set}

get_or_zeros : (m n : ℕ) → get_or {A = ℕ} (replicate m 0) n 0 ≡ 0
get_or_zeros zero n = refl
get_or_zeros (suc m) zero = refl
get_or_zeros (suc m) (suc n) = get_or_zeros m n

pub byte_none : (m : ℕ) → byte_set (replicate m 0) ≡ none
byte_none m = fun_ext (λ n. and_right (is_cell n) _ (ap (λ x. not (eqb x 0)) (get_or_zeros m n)))

bit_zero : (i : ℕ) → bit 0 i ≡ false
bit_zero i = ap (λ x. eqb (x % 2) 1) (zero-div (2 ^ i))

pub bit_none : (m : ℕ) → bit_set (replicate m 0) ≡ none
bit_none m =
    fun_ext (λ n. and_right (is_cell n) _ (ap (λ w. bit w (n % 64)) (get_or_zeros m (n / 64)) ∙ bit_zero (n % 64)))
