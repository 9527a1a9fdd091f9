-- Visiting neighbouring cells: who is listed then, and that the earlier visits keep their places.
use Rattle.std.proofs.Common.{◌≡◌, ℕ, zero, suc, ◌+◌, ◌<◌, ◌≤◌, Bool, true, false, cond, ◌⊎◌, List, [], ◌∷◌, ◌++◌, length, get_or, sym, refl, ap, ◌∙◌, inl, inr, ⊎_elim, arith}
use Rattle.std.proofs.lemmas.Bool.{cases_eq}
use Rattle.std.proofs.lemmas.List.{length_push}
use Rattle.cells.specs.declared.cell.Cell.{Cell}
use Rattle.cells.specs.declared.cell.Cell.TheVariants.{Reference, Pointer, Functor, Atom, Integer}
use Rattle.heaps.specs.Lists.{is_in}
use Rattle.heaps.specs.Leads.{first, many, LeadsBy}
use Rattle.occurring.specs.Visits.{with_visit, visit_all}
use Rattle.heaps.proofs.InLaws.{in_last, in_front, in_other}

module _ (vs : List ℕ) (n : ℕ) where
  -- a case for each answer of the test
  visits : (P : List ℕ → Type 0) → (is_in n vs ≡ true → P vs) → (is_in n vs ≡ false → P (vs ++ (n ∷ []))) → P (with_visit vs n)
  visits P old new = by (is_in n vs) old new
    where
      by : (b : Bool) → (b ≡ true → P vs) → (b ≡ false → P (vs ++ (n ∷ []))) → P (cond b vs (vs ++ (n ∷ [])))
      by true f g = f refl
      by false f g = g refl

  visit_here : is_in n (with_visit vs n) ≡ true
  visit_here = visits (λ us. is_in n us ≡ true) (λ e. e) (λ e. in_last vs n)

  visit_keeps : (k : ℕ) → is_in k vs ≡ true → is_in k (with_visit vs n) ≡ true
  visit_keeps k h = visits (λ us. is_in k us ≡ true) (λ e. h) (λ e. in_front vs n k h)

  visit_only : (k : ℕ) → is_in k (with_visit vs n) ≡ true → (is_in k vs ≡ true) ⊎ (k ≡ n)
  visit_only k =
      visits (λ us. is_in k us ≡ true → (is_in k vs ≡ true) ⊎ (k ≡ n)) (λ e h. inl h)
      (λ e h. ⊎_elim (λ q. inr q) (λ ne. inl (sym (in_other vs n k ne) ∙ h)) (cases_eq k n))

  visit_longer : length vs ≤ length (with_visit vs n)
  visit_longer = visits (λ us. length vs ≤ length us) (λ e. omega arith) (λ e. let l = length_push vs n in omega arith)

  visit_places : (p : ℕ) → p < length vs → get_or (with_visit vs n) p 0 ≡ get_or vs p 0
  visit_places p lt = visits (λ us. get_or us p 0 ≡ get_or vs p 0) (λ e. refl) (λ e. front vs p lt)
    where
      front : (us : List ℕ) (q : ℕ) → q < length us → get_or (us ++ (n ∷ [])) q 0 ≡ get_or us q 0
      front [] q h = absurd (omega arith)
      front (u ∷ us) zero h = refl
      front (u ∷ us) (suc q) h = front us q (omega arith)

pub all_keeps : (vs : List ℕ) (n m k : ℕ) → is_in k vs ≡ true → is_in k (visit_all vs n m) ≡ true
all_keeps vs n zero k h = h
all_keeps vs n (suc m) k h = all_keeps (with_visit vs n) (suc n) m k (visit_keeps vs n k h)

pub all_here : (vs : List ℕ) (n m k : ℕ) → n ≤ k → k < n + m → is_in k (visit_all vs n m) ≡ true
all_here vs n zero k low high = absurd (omega arith)
all_here vs n (suc m) k low high =
    ⊎_elim
    (λ (e : k ≡ n). all_keeps (with_visit vs n) (suc n) m k (ap (λ j. is_in j (with_visit vs n)) e ∙ visit_here vs n))
    (λ (ne : k ≡ n → ⊥). all_here (with_visit vs n) (suc n) m k (omega arith) (omega arith))
    (cases_eq k n)

pub all_only : (vs : List ℕ) (n m k : ℕ) → is_in k (visit_all vs n m) ≡ true → (is_in k vs ≡ true) ⊎ ((n ≤ k) × (k < n + m))
all_only vs n zero k h = inl h
all_only vs n (suc m) k h =
    ⊎_elim
    (λ old. ⊎_elim (λ older. inl older) (λ (e : k ≡ n). inr (omega arith, omega arith)) (visit_only vs n k old))
    (λ new. let a = new.0 in let b = new.1 in inr (omega arith, omega arith))
    (all_only (with_visit vs n) (suc n) m k h)

pub all_longer : (vs : List ℕ) (n m : ℕ) → length vs ≤ length (visit_all vs n m)
all_longer vs n zero = omega arith
all_longer vs n (suc m) = let a = visit_longer vs n in let b = all_longer (with_visit vs n) (suc n) m in omega arith

pub all_places : (vs : List ℕ) (n m p : ℕ) → p < length vs → get_or (visit_all vs n m) p 0 ≡ get_or vs p 0
all_places vs n zero p lt = refl
all_places vs n (suc m) p lt =
    let a = visit_longer vs n in
    all_places (with_visit vs n) (suc n) m p (omega arith) ∙ visit_places vs n p lt

-- one cell more, at the end
pub all_more : (vs : List ℕ) (n m : ℕ) → with_visit (visit_all vs n m) (n + m) ≡ visit_all vs n (suc m)
all_more vs n zero = ap (with_visit vs) (let z : n + 0 ≡ n = omega arith in z)
all_more vs n (suc m) =
    ap (with_visit (visit_all vs n (suc m))) (let z : n + suc m ≡ suc n + m = omega arith in z) ∙ all_more (with_visit vs n) (suc n) m

-- What a word leads to ends inside the heap, if the word leads only to cells.
pub leads_end : (at : ℕ) (w : Cell) → at < 4096 → ((k : ℕ) → LeadsBy at w k → k < 4096) → first at w + many w ≤ 4096
leads_end at (Reference n) low inside = omega (arith, inside n (omega arith, omega arith))
leads_end at (Pointer n) low inside = omega (arith, inside n (omega arith, omega arith))
leads_end at (Functor name zero) low inside = omega arith
leads_end at (Functor name (suc a)) low inside = omega (arith, inside (suc at + a) (omega arith, omega arith))
leads_end at (Atom n) low inside = omega arith
leads_end at (Integer z) low inside = omega arith
