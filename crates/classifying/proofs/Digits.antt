-- The number at the front of a text, read digit by digit.
use Rattle.std.proofs.Common.{◌≡◌, ℕ, ◌+◌, ◌-◌, ◌*◌, ◌<◌, ◌≤◌, Bool, true, false, cond, ◌&&◌, leb, List, [], ◌∷◌, length, get_or, Some, None, refl, ap, ◌∙◌, arith}
use Rattle.std.proofs.lemmas.Bool.{lt-leb}
use Rattle.classifying.specs.Lines.{is_digit, starts_digit, digits_on, number}

-- digits only add to a number
grows : (n : ℕ) (cs : List ℕ) → n ≤ (digits_on n cs).0
grows n [] = omega arith
grows n (c ∷ cs) = by (is_digit c) (grows (10 * n + (c - 48)) cs)
  where
    by : (b : Bool) → 10 * n + (c - 48) ≤ (digits_on (10 * n + (c - 48)) cs).0 → n ≤ (cond b (digits_on (10 * n + (c - 48)) cs) (n, c ∷ cs)).0
    by true h = omega arith
    by false h = omega arith

-- The digits of s before rest spell n, and the digit that comes next makes more than 9999 of it.
pub number_large : (s rest : List ℕ) (n : ℕ) → digits_on 0 s ≡ digits_on n rest → 1 ≤ length rest → is_digit (get_or rest 0 0) ≡ true → 9999 < 10 * n + (get_or rest 0 0 - 48) → number s ≡ None
number_large s [] n read some digit large = absurd (omega arith)
number_large s (c ∷ cs) n read some digit large =
    let more : digits_on 0 s ≡ digits_on (10 * n + (c - 48)) cs = read ∙ ap (λ (b : Bool). cond b (digits_on (10 * n + (c - 48)) cs) (n, c ∷ cs)) digit in
    let rise = grows (10 * n + (c - 48)) cs in
    both (starts_digit s) (ap (λ (p : ℕ × List ℕ). leb p.0 9999) more ∙ lt-leb (digits_on (10 * n + (c - 48)) cs).0 9999 (omega arith))
  where
    both : (a : Bool) → leb (digits_on 0 s).0 9999 ≡ false → cond (a && leb (digits_on 0 s).0 9999) (Some (digits_on 0 s)) None ≡ None
    both true h = ap (λ (b : Bool). cond b (Some (digits_on 0 s)) None) h
    both false h = refl
