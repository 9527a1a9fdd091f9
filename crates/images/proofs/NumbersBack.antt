-- Numbers come back from their texts, and texts from the numbers that they are read as.
use Rattle.std.proofs.Common.{◌≡◌, ℕ, zero, suc, ◌^◌, ◌<◌, ◌≤◌, Bool, true, false, cond, ◌&&◌, eqb, leb, ltb, ◌⊎◌, List, [], ◌∷◌, length, get_or, ℤ, pos, negsuc, Some, None, decimal, Option, sym, refl, ap, ◌∙◌, inl, inr, subst, arith}
use Rattle.std.specs.Fmt.{signed_decimal}
use Rattle.std.specs.Char.{is_ascii_digit}
use Rattle.std.specs.Str.{all_ascii_digits}
use Rattle.std.proofs.lemmas.Fmt.{digits_decimal, digits_value-decimal, decimal_nonempty, decimal_digit, first_decimal, decimal-digits_value, length-decimal-le}
use Rattle.std.proofs.lemmas.Bool.{and_from, and_parts, cond-true, cond-false, eqb-true, eqb-false, ne_eqb, leb-true, le-leb, lt-ltb, ltb-true, not_from_false, not-true, cases_eq}
use Rattle.lines.specs.Words.{read_on, no_leading_zero, natural, below64, natural64, negative, positive, integer64, Integer64}
use Rattle.lines.proofs.NumbersRead.{own}
use Rattle.lines.proofs.Options.{not_some}
use Rattle.images.proofs.Pieces.{all_high, Word}

plain_from : (w : List ℕ) → 0 < length w → (get_or w 0 0 ≡ 48 → length w ≡ 1) → no_leading_zero w ≡ true
plain_from [] h k = absurd (let no : 0 < 0 = h in omega arith)
plain_from (c ∷ []) h k = refl
plain_from (c ∷ d ∷ ds) h k = not_from_false _ (ne_eqb c 48 (λ e. let two : suc (suc (length ds)) ≡ 1 = k e in omega arith))

plain_parts : (w : List ℕ) → no_leading_zero w ≡ true → (0 < length w) × (get_or w 0 0 ≡ 48 → length w ≡ 1)
plain_parts [] e = absurd (let z : ◌≡◌ {A = ℕ} 0 1 = cc in omega arith)
plain_parts (c ∷ []) e = (omega arith, λ z. refl)
plain_parts (c ∷ d ∷ ds) e = (omega arith, λ z. absurd (eqb-false c 48 (not-true _ e) z))

pub first_digit : (n : ℕ) → n < 2 ^ 64 → (48 ≤ get_or (decimal n) 0 0) × (get_or (decimal n) 0 0 ≡ 48 → length (decimal n) ≡ 1)
first_digit n h = by (cases_eq n 0)
  where
    by : (n ≡ 0) ⊎ (n ≡ 0 → ⊥) → (48 ≤ get_or (decimal n) 0 0) × (get_or (decimal n) 0 0 ≡ 48 → length (decimal n) ≡ 1)
    by (inl e) =
        let one : decimal n ≡ 48 ∷ [] = ap decimal e ∙ decimal_digit 0 (omega arith) in
        (omega (arith, ap (λ w. get_or w 0 0) one), λ z. ap length one)
    by (inr ne) = let f = first_decimal n (omega (arith, ne)) h in (omega (arith, f), λ z. absurd (omega (arith, f, z)))

natural_decimal : (n : ℕ) → n < 2 ^ 64 → natural (decimal n) ≡ Some n
natural_decimal n h =
    cond-true _ _ _ (and_from _ _ (plain_from (decimal n) (decimal_nonempty n h) (first_digit n h).1) (digits_decimal own n h))
    ∙ ap Some (digits_value-decimal own n h)

-- a word that is read as a number below 2 ^ 64 is the text of that number
decimal_back : (w : List ℕ) (n : ℕ) → n < 2 ^ 64 → natural w ≡ Some n → w ≡ decimal n
decimal_back w n low e = test (no_leading_zero w && all_ascii_digits w) refl e
  where
    test : (t : Bool) → (no_leading_zero w && all_ascii_digits w) ≡ t → cond t (Some (read_on 0 w)) None ≡ Some n → w ≡ decimal n
    test true is e =
        let parts = and_parts _ _ is in
        let plain = plain_parts w parts.0 in
        let same : read_on 0 w ≡ n = cc in
        sym (decimal-digits_value own w parts.1 plain.0 plain.1 (omega (arith, same, low))) ∙ ap decimal same
    test false is e = absurd (not_some e)

-- numbers of at most 64 bits

pub natural64_decimal : (n : ℕ) → n < 2 ^ 64 → natural64 (decimal n) ≡ Some n
natural64_decimal n h = ap below64 (natural_decimal n h) ∙ cond-true _ _ _ (lt-ltb n (2 ^ 64) h)

pub decimal_natural64 : (w : List ℕ) (n : ℕ) → natural64 w ≡ Some n → (w ≡ decimal n) × (n < 2 ^ 64)
decimal_natural64 w n e = by (natural w) refl e
  where
    test : (m : ℕ) → natural w ≡ Some m → (b : Bool) → ltb m (2 ^ 64) ≡ b → cond b (Some m) None ≡ Some n → (w ≡ decimal n) × (n < 2 ^ 64)
    test m is true low e =
        let same : m ≡ n = cc in
        let fits : m < 2 ^ 64 = ltb-true m (2 ^ 64) low in
        (decimal_back w m fits is ∙ ap decimal same, omega (arith, same, fits))
    test m is false low e = absurd (not_some e)

    by : (o : Option ℕ) → natural w ≡ o → below64 o ≡ Some n → (w ≡ decimal n) × (n < 2 ^ 64)
    by None is e = absurd (not_some e)
    by (Some m) is e = test m is (ltb m (2 ^ 64)) refl e

pub integer64_signed : (z : ℤ) → Integer64 z → integer64 (signed_decimal z) ≡ Some z
integer64_signed (pos n) h =
    let fits : n < 2 ^ 64 = omega arith in
    cond-false _ _ _ (ne_eqb (get_or (decimal n) 0 0) 45 (λ e. omega (arith, e, (first_digit n fits).0)))
    ∙ ap positive (natural64_decimal n fits) ∙ cond-true _ _ _ (lt-ltb n (2 ^ 63) h)
integer64_signed (negsuc n) h = ap negative (natural64_decimal (suc n) (omega arith)) ∙ cond-true _ _ _ (lt-ltb n (2 ^ 63) h)

pub signed_integer64 : (w : List ℕ) (z : ℤ) → integer64 w ≡ Some z → (w ≡ signed_decimal z) × Integer64 z
signed_integer64 [] z e = absurd (not_some e)
signed_integer64 (c ∷ cs) z e = test (eqb c 45) refl e
  where
    minus : (n : ℕ) → natural64 cs ≡ Some (suc n) → c ≡ 45 → (b : Bool) → ltb n (2 ^ 63) ≡ b → cond b (Some (negsuc n)) None ≡ Some z → (c ∷ cs ≡ signed_decimal z) × Integer64 z
    minus n is first true low e =
        let same : negsuc n ≡ z = cc in
        let text = ap (λ b. b ∷ cs) first ∙ ap (λ ds. 45 ∷ ds) (decimal_natural64 cs (suc n) is).0 in
        (text ∙ ap signed_decimal same, subst Integer64 same (ltb-true n (2 ^ 63) low))
    minus n is first false low e = absurd (not_some e)

    below : (o : Option ℕ) → natural64 cs ≡ o → c ≡ 45 → negative o ≡ Some z → (c ∷ cs ≡ signed_decimal z) × Integer64 z
    below None is first e = absurd (not_some e)
    below (Some zero) is first e = absurd (not_some e)
    below (Some (suc n)) is first e = minus n is first (ltb n (2 ^ 63)) refl e

    plain : (n : ℕ) → natural64 (c ∷ cs) ≡ Some n → (b : Bool) → ltb n (2 ^ 63) ≡ b → cond b (Some (pos n)) None ≡ Some z → (c ∷ cs ≡ signed_decimal z) × Integer64 z
    plain n is true low e =
        let same : pos n ≡ z = cc in
        ((decimal_natural64 (c ∷ cs) n is).0 ∙ ap signed_decimal same, subst Integer64 same (ltb-true n (2 ^ 63) low))
    plain n is false low e = absurd (not_some e)

    from0 : (o : Option ℕ) → natural64 (c ∷ cs) ≡ o → positive o ≡ Some z → (c ∷ cs ≡ signed_decimal z) × Integer64 z
    from0 None is e = absurd (not_some e)
    from0 (Some n) is e = plain n is (ltb n (2 ^ 63)) refl e

    test : (b : Bool) → eqb c 45 ≡ b → cond b (negative (natural64 cs)) (positive (natural64 (c ∷ cs))) ≡ Some z → (c ∷ cs ≡ signed_decimal z) × Integer64 z
    test true is e = below (natural64 cs) refl (eqb-true c 45 is) e
    test false is e = from0 (natural64 (c ∷ cs)) refl e

-- of 29 bits
abbrev pub Small : ℤ → Type 0
Small (pos n) = n < 2 ^ 28
Small (negsuc n) = n < 2 ^ 28

pub small_64 : (z : ℤ) → Small z → Integer64 z
small_64 (pos n) h = let P : n < 2 ^ 63 = omega arith in P
small_64 (negsuc n) h = let P : n < 2 ^ 63 = omega arith in P

-- the texts of numbers are words

digits_high : (w : List ℕ) → all_ascii_digits w ≡ true → all_high w ≡ true
digits_high [] e = refl
digits_high (c ∷ cs) e =
    let parts = and_parts (is_ascii_digit c) (all_ascii_digits cs) e in
    let low = leb-true 48 c (and_parts (leb 48 c) (leb c 57) parts.0).0 in
    and_from _ _ (le-leb 45 c (omega (arith, low))) (digits_high cs parts.1)

pub high_decimal : (n : ℕ) → n < 2 ^ 64 → all_high (decimal n) ≡ true
high_decimal n h = digits_high (decimal n) (digits_decimal own n h)

pub word_decimal : (n : ℕ) → n < 10 ^ 10 → Word (decimal n)
word_decimal n h =
    let fits : n < 2 ^ 64 = omega arith in
    record {
      shape = and_from _ _ (lt-ltb 0 (length (decimal n)) (decimal_nonempty n fits)) (le-leb (length (decimal n)) 10 (length-decimal-le 10 n (omega arith) h fits));
      high = high_decimal n fits;
    }

pub word_signed : (z : ℤ) → Small z → Word (signed_decimal z)
word_signed (pos n) h = word_decimal n (omega arith)
word_signed (negsuc n) h =
    let fits : suc n < 2 ^ 64 = omega arith in
    let long = length-decimal-le 9 (suc n) (omega arith) (omega arith) fits in
    record {
      shape = and_from _ _ (lt-ltb 0 (suc (length (decimal (suc n)))) (omega arith)) (le-leb (suc (length (decimal (suc n)))) 10 (omega (arith, long)));
      high = high_decimal (suc n) fits;
    }
