-- Setting bit n % 64 of word n / 64 adds the cell n to the set that packed words stand for.

use Rattle.std.proofs.Common.{◌≡◌, ℕ, ◌/◌, ◌%◌, ◌^◌, ◌<◌, ◌&&◌, ◌≢◌, List, length, get_or, set, sym, ap, ◌∙◌, subst, ⊎_elim, arith, get_or-set_other, get_or-set_same}
use lib.Bits.{bit_or}
use Rattle.std.proofs.lemmas.Bool.{and_from, cases_eq, lt-ltb}
use Rattle.marks.specs.Sets.{is_cell, with_cell}
use Rattle.marks.specs.Keepers.{bit, bit_set}
use Rattle.marks.proofs.Sets.{with_cell_lem}
use Rattle.marks.proofs.OneBit.{or_same, or_other}

module _ (ws : List ℕ) (n mask : ℕ) (cell : n < 4096) (inside : n / 64 < length ws) (one : mask ≡ 2 ^ (n % 64)) where
  -- the words once the bit is set
  abbrev after : List ℕ
  after = set ws (n / 64) (bit_or (get_or ws (n / 64) 0) mask)

  changed_word : get_or after (n / 64) 0 ≡ bit_or (get_or ws (n / 64) 0) (2 ^ (n % 64))
  changed_word = get_or-set_same ws (n / 64) _ 0 inside ∙ ap (bit_or (get_or ws (n / 64) 0)) one

  other_bit : (k : ℕ) → k ≢ n → bit (get_or after (k / 64) 0) (k % 64) ≡ bit (get_or ws (k / 64) 0) (k % 64)
  other_bit k ne =
      ⊎_elim
      (λ e.
      let apart : k % 64 ≢ n % 64 = λ f. ne (omega arith) in
      subst (λ q. bit (get_or after q 0) (k % 64) ≡ bit (get_or ws q 0) (k % 64)) (sym e)
      (ap (λ w. bit w (k % 64)) changed_word ∙ or_other (get_or ws (n / 64) 0) (k % 64) (n % 64) apart))
      (λ away. ap (λ w. bit w (k % 64)) (get_or-set_other ws (n / 64) (k / 64) _ 0 away))
      (cases_eq (k / 64) (n / 64))

  pub bit_mark : bit_set after ≡ with_cell (bit_set ws) n
  bit_mark =
      with_cell_lem (bit_set ws) n cell (bit_set after)
      (and_from (is_cell n) _ (lt-ltb n 4096 cell) (ap (λ w. bit w (n % 64)) changed_word ∙ or_same (get_or ws (n / 64) 0) (n % 64)))
      (λ k ne. ap (λ b. is_cell k && b) (other_bit k ne))
