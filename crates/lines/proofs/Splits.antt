-- A text is split where the first byte b stands in it, and then what follows.
use Rattle.std.proofs.Common.{◌≡◌, ℕ, ◌+◌, ◌-◌, ◌<◌, Bool, true, false, cond, not, eqb, ltb, List, [], ◌∷◌, length, take, drop, Some, None, sym, refl, ap, ◌∙◌, arith}
use Rattle.std.specs.List.{position, position_or_len, before_first, after_first}
use Rattle.std.proofs.lemmas.List.{take_rest}
use Rattle.std.proofs.lemmas.List.Sums.{prefix_len-le-length, fails_before_first}
use Rattle.std.proofs.lemmas.List.Splits.{slice_split_none, slice_split_first, length-slice_split}
use Rattle.std.proofs.lemmas.Bool.{ltb-true, ltb-false}
use Rattle.lines.specs.Lines.{split}
use Rattle.lines.proofs.Options.{not_some}

pub split_some : (b : ℕ) (xs : List ℕ) → 0 < length (split b xs)
split_some b xs = omega (arith, length-slice_split (λ c. eqb c b) xs)

-- what `position` finds
module _ (b : ℕ) (xs : List ℕ) where
  abbrev first : ℕ
  first = position_or_len (λ c. eqb c b) xs

  pub found : (n : ℕ) → position (λ c. eqb c b) xs ≡ Some n → (first ≡ n) × (first < length xs)
  found n e = test (ltb first (length xs)) refl e
    where
      test : (t : Bool) → ltb first (length xs) ≡ t → cond t (Some first) None ≡ Some n → (first ≡ n) × (first < length xs)
      test true is e = (cc, ltb-true first (length xs) is)
      test false is e = absurd (not_some e)

  pub not_found : position (λ c. eqb c b) xs ≡ None → first ≡ length xs
  not_found e = test (ltb first (length xs)) refl e
    where
      test : (t : Bool) → ltb first (length xs) ≡ t → cond t (Some first) None ≡ None → first ≡ length xs
      test true is e = absurd (not_some (sym e))
      test false is e = omega (arith, ltb-false first (length xs) is, prefix_len-le-length (λ c. not (eqb c b)) xs)

  pub split_none : first ≡ length xs → split b xs ≡ xs ∷ []
  split_none e = slice_split_none (λ c. eqb c b) xs (λ k d h. fails_before_first (λ c. eqb c b) xs k d (omega (arith, e, h)))

  pub split_at : first < length xs → split b xs ≡ before_first (λ c. eqb c b) xs ∷ split b (after_first (λ c. eqb c b) xs)
  split_at h = slice_split_first (λ c. eqb c b) xs 0 h

  -- as slices are cut
  pub cut_parts : (n : ℕ) → first ≡ n → (take n xs ≡ before_first (λ c. eqb c b) xs) × (take (length xs - (n + 1)) (drop (n + 1) xs) ≡ after_first (λ c. eqb c b) xs)
  cut_parts n e = (ap (λ k. take k xs) (sym e), take_rest xs (n + 1) ∙ ap (λ k. drop (k + 1) xs) (sym e))
