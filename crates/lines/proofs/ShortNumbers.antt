-- The number of at most ten digits is below ten to the tenth, so the limits of 64 bits leave it as it is.
use Rattle.std.proofs.Common.{◌≡◌, ℕ, zero, suc, ◌^◌, ◌<◌, ◌≤◌, Bool, true, false, cond, ◌&&◌, eqb, List, length, drop, get_or, ℤ, IfSome, Some, None, Option, refl, ap, ◌∙◌, ap₂, arith}
use Rattle.std.specs.Str.{all_ascii_digits}
use Rattle.std.proofs.lemmas.Bool.{and_parts, cond-true, lt-ltb}
use Rattle.std.proofs.lemmas.List.{length-drop}
use Rattle.std.proofs.lemmas.Str.Parse.{digits_value_short}
use Rattle.lines.specs.Words.{read_on, no_leading_zero, natural, natural64, below64, negative, positive}
use Rattle.lines.specs.ShortWords.{below0, from0, ShortWords}
use Rattle.lines.proofs.NumbersRead.{own}

abbrev Small : Option ℕ → Type 0
Small o = IfSome o (λ n. n < 10 ^ 10)

small : (w : List ℕ) → length w ≤ 10 → Small (natural w)
small w h = by _ refl
  where
    by : (t : Bool) → (no_leading_zero w && all_ascii_digits w) ≡ t → Small (cond t (Some (read_on 0 w)) None)
    by true e = digits_value_short own w 10 (and_parts _ _ e).1 h
    by false e = tt

below : (o : Option ℕ) → Small o → below64 o ≡ o
below None s = refl
below (Some n) s = cond-true _ _ _ (lt-ltb n (2 ^ 64) (omega (arith, s)))

minus : (o : Option ℕ) → Small o → negative o ≡ below0 o
minus None s = refl
minus (Some zero) s = refl
minus (Some (suc n)) s = cond-true _ _ _ (lt-ltb n (2 ^ 63) (omega (arith, s)))

plus : (o : Option ℕ) → Small o → positive o ≡ from0 o
plus None s = refl
plus (Some n) s = cond-true _ _ _ (lt-ltb n (2 ^ 63) (omega (arith, s)))

pub short_words : ShortWords
short_words w h = (natural_short w h, ap₂ (cond (eqb (get_or w 0 0) 45)) (size minus (drop 1 w) shorter) (size plus w h))
  where
    natural_short : (w : List ℕ) → length w ≤ 10 → natural64 w ≡ natural w
    natural_short w h = below (natural w) (small w h)

    shorter : length (drop 1 w) ≤ 10
    shorter = omega (arith, length-drop 1 w, h)

    size : {f g : Option ℕ → Option ℤ} → ((o : Option ℕ) → Small o → f o ≡ g o) → (w : List ℕ) → length w ≤ 10 → f (natural64 w) ≡ g (natural w)
    size {f} same w h = ap f (natural_short w h) ∙ same (natural w) (small w h)
