-- The variables of a tree as a list, and lists of variables with one taken out.
use Rattle.std.proofs.Common.{◌≡◌, ℕ, suc, ◌+◌, ◌<◌, ◌≤◌, Bool, true, false, cond, ◌||◌, eqb, ◌⊎◌, List, [], ◌∷◌, ◌++◌, length, sym, refl, ◌∙◌, ap₂, inl, inr, arith, length-append}
use Rattle.std.proofs.lemmas.Bool.{both_ways, eqb-true, or_cases, or_left, or_right}
use Rattle.terms.specs.Terms.{Sort, Tree, var, node, nil, cons, occurs}
use Rattle.terms.specs.Robinson.{variables}

abbrev pub mem : ℕ → List ℕ → Bool
mem x [] = false
mem x (y ∷ ys) = eqb y x || mem x ys

abbrev pub without : ℕ → List ℕ → List ℕ
without x [] = []
without x (y ∷ ys) = cond (eqb y x) (without x ys) (y ∷ without x ys)

pub without_le : (x : ℕ) (vs : List ℕ) → length (without x vs) ≤ length vs
without_le x [] = omega arith
without_le x (y ∷ ys) = test (eqb y x) (without_le x ys)
  where
    test : (b : Bool) → length (without x ys) ≤ length ys → length (cond b (without x ys) (y ∷ without x ys)) ≤ suc (length ys)
    test true h = omega arith
    test false h = omega arith

pub without_lt : (x : ℕ) (vs : List ℕ) → mem x vs ≡ true → length (without x vs) < length vs
without_lt x [] e = absurd (both_ways false refl e)
without_lt x (y ∷ ys) e = test (eqb y x) e (without_lt x ys) (without_le x ys)
  where
    test : (b : Bool) → (b || mem x ys) ≡ true → (mem x ys ≡ true → length (without x ys) < length ys) → length (without x ys) ≤ length ys
        → length (cond b (without x ys) (y ∷ without x ys)) < suc (length ys)
    test true h f k = omega arith
    test false h f k = let q = f h in omega arith

pub mem_without : (x y : ℕ) (vs : List ℕ) → mem y vs ≡ true → (y ≡ x → ⊥) → mem y (without x vs) ≡ true
mem_without x y [] e ne = e
mem_without x y (z ∷ zs) e ne = test (eqb z x) refl (or_cases _ _ e) (mem_without x y zs)
  where
    test : (b : Bool) → eqb z x ≡ b → (eqb z y ≡ true) ⊎ (mem y zs ≡ true) → (mem y zs ≡ true → (y ≡ x → ⊥) → mem y (without x zs) ≡ true)
        → mem y (cond b (without x zs) (z ∷ without x zs)) ≡ true
    test true h (inl p) f = absurd (ne (sym (eqb-true z y p) ∙ eqb-true z x h))
    test true h (inr p) f = f p ne
    test false h (inl p) f = or_left _ _ p
    test false h (inr p) f = or_right _ _ (f p ne)

-- The variables of a tree, each as often as it occurs.
abbrev pub names : {s : Sort} → Tree s → List ℕ
names (var n) = n ∷ []
names (node l ts) = names ts
names nil = []
names (cons t ts) = names t ++ names ts

pub mem_left : (x : ℕ) (a b : List ℕ) → mem x a ≡ true → mem x (a ++ b) ≡ true
mem_left x [] b e = absurd (both_ways false refl e)
mem_left x (y ∷ ys) b e = elim (or_cases (eqb y x) (mem x ys) e) [ inl p ↦ or_left (eqb y x) _ p | inr p ↦ or_right (eqb y x) _ (mem_left x ys b p) ]

pub mem_right : (x : ℕ) (a b : List ℕ) → mem x b ≡ true → mem x (a ++ b) ≡ true
mem_right x [] b e = e
mem_right x (y ∷ ys) b e = or_right (eqb y x) _ (mem_right x ys b e)

pub names_all : {s : Sort} (x : ℕ) (t : Tree s) → occurs x t ≡ true → mem x (names t) ≡ true
names_all x (var n) e = or_left _ _ e
names_all x (node l ts) e = names_all x ts e
names_all x nil e = e
names_all x (cons t ts) e = elim (or_cases _ _ e) [ inl p ↦ mem_left x (names t) (names ts) (names_all x t p) | inr p ↦ mem_right x (names t) (names ts) (names_all x ts p) ]

pub names_two : {s : Sort} (x : ℕ) (t u : Tree s) → (occurs x t || occurs x u) ≡ true → mem x (names t ++ names u) ≡ true
names_two x t u e = elim (or_cases _ _ e) [ inl p ↦ mem_left x (names t) (names u) (names_all x t p) | inr p ↦ mem_right x (names t) (names u) (names_all x u p) ]

pub names_length : {s : Sort} (t : Tree s) → length (names t) ≡ variables t
names_length (var n) = refl
names_length (node l ts) = names_length ts
names_length nil = refl
names_length (cons t ts) = length-append (names t) (names ts) ∙ ap₂ ◌+◌ (names_length t) (names_length ts)
