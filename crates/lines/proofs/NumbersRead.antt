-- Going over the digits of a word reads the number that they stand for, or finds that it has more than 64 bits.
use Rattle.std.proofs.Common.{◌≡◌, ℕ, ◌+◌, ◌-◌, ◌*◌, ◌^◌, ◌<◌, ◌≤◌, Bool, true, false, cond, ◌&&◌, List, [], ◌∷◌, length, get_or, drop, Some, None, sym, refl, ap, ◌∙◌, rules, arith}
use Rattle.std.specs.Str.{all_ascii_digits}
use Rattle.std.proofs.lemmas.Str.Parse.{IsNumeralModel, numerals_by_fold, tells_all_ascii_digits}
use Rattle.std.proofs.lemmas.List.{at_drop_more, at_drop_all}
use Rattle.std.proofs.lemmas.Bool.{and_from, cond-true, cond-false, lt-ltb, le-ltb}
use Rattle.lines.specs.Words.{read_on, no_leading_zero, natural64, below64}

-- the number that digits stand for, in the words of std
pub own : IsNumeralModel (λ ds. all_ascii_digits ds ≡ true) (read_on 0)
own = numerals_by_fold (λ ds. all_ascii_digits ds ≡ true) tells_all_ascii_digits read_on (search rules)

-- more digits never make a number smaller
reads_up : (n : ℕ) (cs : List ℕ) → n ≤ read_on n cs
reads_up n [] = omega arith
reads_up n (c ∷ cs) = let h = reads_up (10 * n + (c - 48)) cs in omega (arith, h)

-- the bytes before the i-th are read as the number n
module _ (w : List ℕ) (n i : ℕ) (digits : all_ascii_digits w ≡ all_ascii_digits (drop i w)) (number : read_on 0 w ≡ read_on n (drop i w)) where
  -- with the next digit the number has more than 64 bits
  pub too_large : i < length w → 2 ^ 64 ≤ 10 * n + (get_or w i 0 - 48) → None ≡ natural64 w
  too_large low high = test (no_leading_zero w && all_ascii_digits w)
    where
      most : 10 * n + (get_or w i 0 - 48) ≤ read_on 0 w
      most =
          let h = reads_up (10 * n + (get_or w i 0 - 48)) (drop (i + 1) w) in
          omega (arith, h, number ∙ at_drop_more (read_on n) w i 0 low)

      test : (t : Bool) → None ≡ below64 (cond t (Some (read_on 0 w)) None)
      test true = sym (cond-false _ _ _ (le-ltb (read_on 0 w) (2 ^ 64) (omega (arith, high, most))))
      test false = refl

  -- all bytes are read
  pub number_all : length w ≤ i → n < 2 ^ 64 → no_leading_zero w ≡ true → Some n ≡ natural64 w
  number_all all low plain =
      let read : natural64 w ≡ below64 (Some (read_on 0 w)) = ap below64 (cond-true _ _ _ (and_from _ _ plain (digits ∙ at_drop_all all_ascii_digits w i all))) in
      sym (read ∙ ap (λ m. below64 (Some m)) (number ∙ at_drop_all (read_on n) w i all) ∙ cond-true _ _ _ (lt-ltb n (2 ^ 64) low))
