-- Membership in a list that is made from others.
use Rattle.std.proofs.Common.{◌≡◌, ◌⊎◌, List, [], ◌∷◌, ◌++◌, refl, inl, inr, ⊎_elim}
use Rattle.heaps.specs.Lists.{Among, here, further}

module _ {A : Type 0} {x : A} where
  pub among_nowhere : Among x [] → ⊥
  among_nowhere m = elim m [ ]

  pub among_left : {xs : List A} (ys : List A) → Among x xs → Among x (xs ++ ys)
  among_left ys here = here
  among_left ys (further m) = further (among_left ys m)

  pub among_right : (xs : List A) {ys : List A} → Among x ys → Among x (xs ++ ys)
  among_right [] m = m
  among_right (y ∷ xs) m = further (among_right xs m)

  pub among_either : (xs ys : List A) → Among x (xs ++ ys) → Among x xs ⊎ Among x ys
  among_either [] ys m = inr m
  among_either (y ∷ xs) ys here = inl here
  among_either (y ∷ xs) ys (further m) = ⊎_elim (λ l. inl (further l)) (λ r. inr r) (among_either xs ys m)

  pub among_one : {y : A} → Among x (y ∷ []) → x ≡ y
  among_one here = refl
  among_one (further m) = absurd (among_nowhere m)
