-- What holds of each member of a list, and the members of two lists joined.
use Rattle.std.proofs.Common.{◌≡◌, ℕ, true, false, eqb, ◌⊎◌, List, [], ◌∷◌, ◌++◌, refl, subst, inl, inr, ⊎_elim}
use Rattle.std.proofs.lemmas.Bool.{both_ways, eqb-true, or_cases}
use Rattle.heaps.specs.Lists.{Each, Among, here, further, is_in}

pub each_map : {A : Type 0} (P Q : A → Type 0) → ((a : A) → P a → Q a) → (xs : List A) → Each P xs → Each Q xs
each_map P Q f [] e = tt
each_map P Q f (x ∷ xs) e = (f x e.0, each_map P Q f xs e.1)

pub each_joined : {A : Type 0} (P : A → Type 0) (xs ys : List A) → Each P xs → Each P ys → Each P (xs ++ ys)
each_joined P [] ys e d = d
each_joined P (x ∷ xs) ys e d = (e.0, each_joined P xs ys e.1 d)

pub each_among : {A : Type 0} (P : A → Type 0) {x : A} {xs : List A} → Each P xs → Among x xs → P x
each_among P e here = e.0
each_among P e (further m) = each_among P e.1 m

pub each_in : (P : ℕ → Type 0) (x : ℕ) (xs : List ℕ) → Each P xs → is_in x xs ≡ true → P x
each_in P x [] e q = absurd (both_ways false refl q)
each_in P x (y ∷ ys) e q =
    ⊎_elim (λ p. subst P (eqb-true y x p) e.0) (λ p. each_in P x ys e.1 p) (or_cases (eqb y x) (is_in x ys) q)

module _ {A : Type 0} {x : A} where
  pub among_left : {xs : List A} (ys : List A) → Among x xs → Among x (xs ++ ys)
  among_left ys here = here
  among_left ys (further m) = further (among_left ys m)

  pub among_right : (xs : List A) {ys : List A} → Among x ys → Among x (xs ++ ys)
  among_right [] m = m
  among_right (y ∷ xs) m = further (among_right xs m)

  pub among_either : (xs ys : List A) → Among x (xs ++ ys) → Among x xs ⊎ Among x ys
  among_either [] ys m = inr m
  among_either (y ∷ xs) ys here = inl here
  among_either (y ∷ xs) ys (further m) = ⊎_elim (λ p. inl (further p)) inr (among_either xs ys m)
