-- Each merge of two different classes makes one structure less stand for a class, so there are fewer merges than cells.
use Rattle.std.proofs.Common.{◌≡◌, ℕ, zero, suc, ◌+◌, ◌<◌, ◌≤◌, Bool, true, false, cond, eqb, List, [], ◌∷◌, length, sym, refl, ap, ◌∙◌, ⊎_elim, arith}
use Rattle.std.proofs.lemmas.Bool.{both_ways, eqb-true, eqb-false, eq-eqb, ne_eqb, cases_eq}
use Rattle.marks.specs.Sets.{count_below}
use Rattle.heaps.proofs.CountLaws.{count_at_most, count_added}
use Rattle.classes.specs.Merges.{Merge, rep, Joined}

-- p stands for its class
abbrev stands : List Merge → ℕ → Bool
stands merges p = eqb (rep merges p) p

-- the structure that stands for a class is in it
rep_rep : (merges : List Merge) (p : ℕ) → rep merges (rep merges p) ≡ rep merges p
rep_rep [] p = refl
rep_rep (m ∷ merges) p = test (eqb (rep merges p) (rep merges m.1)) refl (rep_rep merges)
  where
    e : ℕ → ℕ
    e = rep merges

    -- a class is put in the second one's place, and keeps its own
    moved : (b : Bool) (x : ℕ) → e x ≡ x → eqb x (e m.1) ≡ b → (b ≡ true → x ≡ e m.0) → cond (eqb (e x) (e m.1)) (e m.0) (e x) ≡ x
    moved true x is s same = ap (λ (y : ℕ). cond (eqb y (e m.1)) (e m.0) y) is ∙ ap (λ (c : Bool). cond c (e m.0) x) s ∙ sym (same refl)
    moved false x is s same = ap (λ (y : ℕ). cond (eqb y (e m.1)) (e m.0) y) is ∙ ap (λ (c : Bool). cond c (e m.0) x) s

    test : (b : Bool) → eqb (e p) (e m.1) ≡ b → ((q : ℕ) → e (e q) ≡ e q)
        → rep (m ∷ merges) (cond b (e m.0) (e p)) ≡ cond b (e m.0) (e p)
    test true s f = moved (eqb (e m.0) (e m.1)) (e m.0) (f m.0) refl (λ q. refl)
    test false s f = moved false (e p) (f p) s (λ q. absurd (both_ways true (sym q) refl))

rep_below : (n : ℕ) (merges : List Merge) → Joined n merges → (p : ℕ) → p < n → rep merges p < n
rep_below n [] j p lt = lt
rep_below n (m ∷ merges) j p lt = test (eqb (rep merges p) (rep merges m.1)) (rep_below n merges j.3)
  where
    test : (b : Bool) → ((q : ℕ) → q < n → rep merges q < n) → cond b (rep merges m.0) (rep merges p) < n
    test true f = f m.0 j.0
    test false f = f p lt

-- the merge of two classes leaves all that stand for a class but one
stands_fewer : (n : ℕ) (merges : List Merge) (m : Merge) → Joined n (m ∷ merges) → count_below (stands merges) n ≡ suc (count_below (stands (m ∷ merges)) n)
stands_fewer n merges m j = count_added (stands (m ∷ merges)) (stands merges) y n (rep_below n merges j.3 m.1 j.1) gone is other
  where
    e : ℕ → ℕ
    e = rep merges

    y : ℕ
    y = e m.1

    is : eqb (e y) y ≡ true
    is = eq-eqb (e y) y (rep_rep merges m.1)

    gone : eqb (cond (eqb (e y) y) (e m.0) (e y)) y ≡ false
    gone = ap (λ (b : Bool). eqb (cond b (e m.0) (e y)) y) is ∙ j.2

    other : (k : ℕ) → (k ≡ y → ⊥) → eqb (e k) k ≡ eqb (cond (eqb (e k) y) (e m.0) (e k)) k
    other k ne = test (eqb (e k) y) refl
      where
        test : (b : Bool) → eqb (e k) y ≡ b → eqb (e k) k ≡ eqb (cond b (e m.0) (e k)) k
        test true s = let a = eqb-true (e k) y s in let no : eqb (e k) k ≡ false = ne_eqb (e k) k (λ q. ne (sym q ∙ a)) in
            no ∙ sym (ne_eqb (e m.0) k (λ q. eqb-false (e m.0) y j.2 (ahead q a)))
          where
            ahead : e m.0 ≡ k → e k ≡ y → e m.0 ≡ y
            ahead q a = sym (rep_rep merges m.0) ∙ ap e q ∙ a
        test false s = refl

counted : (n : ℕ) (merges : List Merge) → Joined n merges → length merges + count_below (stands merges) n ≤ n
counted n [] j = let a = count_at_most (stands []) n in omega arith
counted n (m ∷ merges) j = let a = stands_fewer n merges m j in let b = counted n merges j.3 in omega arith

-- some structure stands for the class of cell 0
some_stands : (s : ℕ → Bool) (x n : ℕ) → x < n → s x ≡ true → 1 ≤ count_below s n
unfolding count_below
some_stands s x zero lt e = absurd (omega arith)
some_stands s x (suc n) lt e = ⊎_elim here (λ ne. there (some_stands s x n (omega arith) e)) (cases_eq n x)
  where
    worth : Bool → ℕ
    worth b = cond b 1 0

    there : 1 ≤ count_below s n → 1 ≤ count_below s n + worth (s n)
    there a = omega arith

    here : n ≡ x → 1 ≤ count_below s n + worth (s n)
    here q = let a : worth (s n) ≡ 1 = ap worth (ap s q ∙ e) in omega arith

pub merges_fewer : (n : ℕ) (merges : List Merge) → 0 < n → Joined n merges → length merges < n
merges_fewer n merges lt j =
    let a = counted n merges j in
    let b = some_stands (stands merges) (rep merges 0) n (rep_below n merges j 0 lt) (eq-eqb (rep merges (rep merges 0)) (rep merges 0) (rep_rep merges 0)) in
    omega arith
