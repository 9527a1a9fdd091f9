-- Marking one cell, and marking some cells and then others.
use Rattle.std.proofs.Common.{◌≡◌, ℕ, ◌+◌, ◌<◌, Bool, true, false, ◌≢◌, ◌⊎◌, List, [], ◌∷◌, ◌++◌, length, sym, refl, ap, ◌∙◌, subst, inl, inr, ⊎_elim, arith, length-append}
use Rattle.std.proofs.lemmas.Bool.{cases_eq}
use Rattle.marks.specs.Sets.{with_cell}
use Rattle.heaps.specs.Lists.{Among, here}
use Rattle.marking.specs.Walks.{total, Noted}
use Rattle.marking.proofs.Counts.{with_here, with_other, count_with}
use Rattle.marking.proofs.Members.{among_left, among_right, among_either, among_one}

module _ (s : ℕ → Bool) (p : List ℕ) (n : ℕ) (cell : n < 4096) (new : s n ≡ false) (t : ℕ → Bool) (q : List ℕ) (marked : t ≡ with_cell s n)
    (pushed : q ≡ p ++ (n ∷ [])) where
  at_here : t n ≡ true
  at_here = ap (λ (f : ℕ → Bool). f n) marked ∙ with_here s n cell

  at_other : (k : ℕ) → k ≢ n → t k ≡ s k
  at_other k ne = ap (λ (f : ℕ → Bool). f k) marked ∙ with_other s n cell k ne

  last_is : Among n q
  last_is = subst (Among n) (sym pushed) (among_right p here)

  pub noted_one : Noted (λ k. k ≡ n) s p t q
  noted_one =
      record {
        kept = λ k h. ⊎_elim (λ e. ap t e ∙ at_here) (λ ne. at_other k ne ∙ h) (cases_eq k n);
        stays = λ k m. subst (Among k) (sym pushed) (among_left (n ∷ []) m);
        only = λ k h. ⊎_elim (λ e. inr (e, subst (λ j. Among j q) (sym e) last_is)) (λ ne. inl (sym (at_other k ne) ∙ h)) (cases_eq k n);
        waits = λ k m.
            ⊎_elim (λ old. inl old) (λ one. inr (ap t (among_one one) ∙ at_here)) (among_either p (n ∷ []) (subst (Among k) pushed m));
        all = λ k e. ap t e ∙ at_here;
        sum =
            let more : total t ≡ total s + 1 = ap total marked ∙ count_with s n cell new in
            let long : length q ≡ length p + 1 = ap length pushed ∙ length-append p (n ∷ []) in
            omega arith;
      }

module _ (P : ℕ → Type 0) (s : ℕ → Bool) (p : List ℕ) where
  pub noted_none : ((k : ℕ) → P k → ⊥) → Noted P s p s p
  noted_none none =
      record {
        kept = λ k h. h;
        stays = λ k m. m;
        only = λ k h. inl h;
        waits = λ k m. inl m;
        all = λ k h. absurd (none k h);
        sum = refl;
      }

module _ {P Q : ℕ → Type 0} (R : ℕ → Type 0) {s : ℕ → Bool} {p : List ℕ} {t : ℕ → Bool} {q : List ℕ} {u : ℕ → Bool} {r : List ℕ} where
  -- the cells with P, and then those with Q, are the cells with R
  pub noted_then : Noted P s p t q → Noted Q t q u r → ((k : ℕ) → P k → R k) → ((k : ℕ) → Q k → R k) → ((k : ℕ) → R k → P k ⊎ Q k) → Noted R s p u r
  noted_then a b left right either =
      record {
        kept = λ k h. b.kept k (a.kept k h);
        stays = λ k m. b.stays k (a.stays k m);
        only = λ k h.
            ⊎_elim
            (λ old. ⊎_elim (λ older. inl older) (λ new. inr (left k new.0, b.stays k new.1)) (a.only k old))
            (λ new. inr (right k new.0, new.1))
            (b.only k h);
        waits = λ k m. ⊎_elim (λ old. ⊎_elim (λ older. inl older) (λ h. inr (b.kept k h)) (a.waits k old)) (λ h. inr h) (b.waits k m);
        all = λ k h. ⊎_elim (λ x. b.kept k (a.all k x)) (λ x. b.all k x) (either k h);
        sum = omega (arith, a.sum, b.sum);
      }
