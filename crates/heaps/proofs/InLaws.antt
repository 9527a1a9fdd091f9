-- Whether a number is in a list: in one that grew at its end, and at which place.
use Rattle.std.proofs.Common.{◌≡◌, ℕ, zero, suc, ◌<◌, Bool, true, false, ◌||◌, eqb, ◌≢◌, List, [], ◌∷◌, ◌++◌, length, get_or, sym, refl, ap, ◌∙◌, ⊎_elim, arith}
use Rattle.std.proofs.lemmas.Bool.{both_ways, eqb-true, eq-eqb, ne_eqb, or_left, or_right, or_cases, or_from}
use Rattle.heaps.specs.Lists.{is_in}
use Rattle.heaps.proofs.EachLaws.{is_in_append}

pub in_one : (n k : ℕ) → k ≢ n → is_in k (n ∷ []) ≡ false
in_one n k ne = or_from (eqb n k) false (ne_eqb n k (λ e. ne (sym e))) refl

pub in_last : (cells : List ℕ) (n : ℕ) → is_in n (cells ++ (n ∷ [])) ≡ true
in_last cells n = is_in_append n cells (n ∷ []) ∙ or_right (is_in n cells) _ (or_left (eqb n n) false (eq-eqb n n refl))

pub in_front : (cells : List ℕ) (n k : ℕ) → is_in k cells ≡ true → is_in k (cells ++ (n ∷ [])) ≡ true
in_front cells n k e = is_in_append k cells (n ∷ []) ∙ or_left (is_in k cells) _ e

pub in_other : (cells : List ℕ) (n k : ℕ) → k ≢ n → is_in k (cells ++ (n ∷ [])) ≡ is_in k cells
in_other cells n k ne = is_in_append k cells (n ∷ []) ∙ ap (λ b. is_in k cells || b) (in_one n k ne) ∙ none (is_in k cells)
  where
    none : (b : Bool) → (b || false) ≡ b
    none true = refl
    none false = refl

pub in_at : (cells : List ℕ) (p : ℕ) → p < length cells → is_in (get_or cells p 0) cells ≡ true
in_at [] p h = absurd (omega arith)
in_at (c ∷ cells) zero h = or_left (eqb c c) (is_in c cells) (eq-eqb c c refl)
in_at (c ∷ cells) (suc p) h = or_right (eqb c (get_or cells p 0)) _ (in_at cells p (omega arith))

pub place_of : (cells : List ℕ) (k : ℕ) → is_in k cells ≡ true → (p : ℕ) × (p < length cells) × (get_or cells p 0 ≡ k)
place_of [] k e = absurd (both_ways false refl e)
place_of (c ∷ cells) k e =
    ⊎_elim
    (λ a. (0, omega arith, eqb-true c k a))
    (λ b. let r = place_of cells k b in (suc r.0, (let lt = r.1 in omega arith), r.2))
    (or_cases (eqb c k) (is_in k cells) e)
