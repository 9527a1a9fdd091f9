-- Words without spaces come back from the line that they make, and a line from its words; so do lines and texts.
use Rattle.std.proofs.Common.{◌≡◌, ℕ, ◌<◌, Bool, true, not, ◌&&◌, eqb, leb, List, [], ◌∷◌, ◌++◌, sym, refl, ap, ◌∙◌, arith}
use Rattle.std.specs.List.{join_with_byte, onto_first}
use Rattle.std.proofs.lemmas.List.Splits.{join_with_byte-slice_split}
use Rattle.std.proofs.lemmas.Bool.{and_parts, and_from, cond-true, cond-false, eq-eqb, ne_eqb, leb-true, not-true, not_from_false}
use Rattle.lines.specs.Words.{word_shaped}
use Rattle.lines.specs.Lines.{split, words_of, shaped}

-- no byte below 45 stands in the text
abbrev pub all_high : List ℕ → Bool
all_high [] = true
all_high (c ∷ cs) = leb 45 c && all_high cs

pub record Word (w : List ℕ) : Type 0 where
  pub shape : word_shaped w ≡ true
  pub high : all_high w ≡ true

-- the byte b does not stand in the text
abbrev pub lacks : ℕ → List ℕ → Bool
lacks b [] = true
lacks b (c ∷ cs) = not (eqb c b) && lacks b cs

pub lacks_append : (b : ℕ) (xs ys : List ℕ) → lacks b xs ≡ true → lacks b ys ≡ true → lacks b (xs ++ ys) ≡ true
lacks_append b [] ys h k = k
lacks_append b (x ∷ xs) ys h k = let p = and_parts _ _ h in and_from _ _ p.0 (lacks_append b xs ys p.1 k)

pub high_lacks : (b : ℕ) (w : List ℕ) → b < 45 → all_high w ≡ true → lacks b w ≡ true
high_lacks b [] low h = refl
high_lacks b (c ∷ cs) low h =
    let p = and_parts _ _ h in
    and_from _ _ (not_from_false _ (ne_eqb c b (λ same. omega (arith, same, low, leb-true 45 c p.0)))) (high_lacks b cs low p.1)

pub split_joined : (b : ℕ) (w rest : List ℕ) → lacks b w ≡ true → split b (w ++ (b ∷ rest)) ≡ w ∷ split b rest
split_joined b [] rest h = cond-true _ _ _ (eq-eqb b b refl)
split_joined b (c ∷ cs) rest h =
    let p = and_parts _ _ h in cond-false _ _ _ (not-true _ p.0) ∙ ap (onto_first c) (split_joined b cs rest p.1)

pub split_alone : (b : ℕ) (w : List ℕ) → lacks b w ≡ true → split b w ≡ w ∷ []
split_alone b [] h = refl
split_alone b (c ∷ cs) h =
    let p = and_parts _ _ h in cond-false _ _ _ (not-true _ p.0) ∙ ap (onto_first c) (split_alone b cs p.1)

-- four words and the line that they make
module _ (p i k v : List ℕ) where
  abbrev pub four : List ℕ
  four = p ++ (32 ∷ (i ++ (32 ∷ (k ++ (32 ∷ v)))))

  pub words_four : Word p → Word i → Word k → Word v → words_of four ≡ p ∷ i ∷ k ∷ v ∷ []
  words_four wp wi wk wv =
      split_joined 32 p _ (high_lacks 32 p (omega arith) wp.high)
      ∙ ap (λ ws. p ∷ ws) (split_joined 32 i _ (high_lacks 32 i (omega arith) wi.high)
      ∙ ap (λ ws. i ∷ ws) (split_joined 32 k _ (high_lacks 32 k (omega arith) wk.high)
      ∙ ap (λ ws. k ∷ ws) (split_alone 32 v (high_lacks 32 v (omega arith) wv.high))))

  pub four_lacks : Word p → Word i → Word k → Word v → lacks 10 four ≡ true
  four_lacks wp wi wk wv =
      lacks_append 10 p _ (high_lacks 10 p (omega arith) wp.high)
      (lacks_append 10 i _ (high_lacks 10 i (omega arith) wi.high)
      (lacks_append 10 k _ (high_lacks 10 k (omega arith) wk.high) (high_lacks 10 v (omega arith) wv.high)))

  pub shaped_four : Word p → Word i → Word k → Word v → shaped (p ∷ i ∷ k ∷ v ∷ []) ≡ true
  shaped_four wp wi wk wv =
      and_from _ _ refl (and_from _ _ wp.shape (and_from _ _ wi.shape (and_from _ _ wk.shape (and_from _ _ wv.shape refl))))

  pub line_four : (line : List ℕ) → words_of line ≡ p ∷ i ∷ k ∷ v ∷ [] → line ≡ four
  line_four line e =
      sym (join_with_byte-slice_split 32 line) ∙ ap (join_with_byte 32) e
