-- What holds of each member of a list holds of the members of its parts, and of one member; and members stay different in a part.
use Rattle.std.proofs.Common.{◌≡◌, ℕ, zero, suc, Bool, true, false, ◌||◌, eqb, List, [], ◌∷◌, ◌++◌, get_or, take, drop, set, refl, subst}
use mathlib.Core.HLevel.{×_prop, Unit-prop}
use Rattle.std.proofs.lemmas.Bool.{eqb-true, both_ways, or_parts, or_from, or_right}
use Rattle.heaps.specs.Lists.{Each, is_in, Different}

pub each_map : {A : Type 0} (P Q : A → Type 0) → ((a : A) → P a → Q a) → (xs : List A) → Each P xs → Each Q xs
each_map P Q f [] e = tt
each_map P Q f (x ∷ xs) e = (f x e.0, each_map P Q f xs e.1)

pub each_two : {A : Type 0} (P Q R : A → Type 0) → ((a : A) → P a → Q a → R a) → (xs : List A) → Each P xs → Each Q xs → Each R xs
each_two P Q R f [] d e = tt
each_two P Q R f (x ∷ xs) d e = (f x d.0 e.0, each_two P Q R f xs d.1 e.1)

pub each_take : {A : Type 0} (P : A → Type 0) (k : ℕ) (xs : List A) → Each P xs → Each P (take k xs)
each_take P zero xs e = tt
each_take P (suc k) [] e = tt
each_take P (suc k) (x ∷ xs) e = (e.0, each_take P k xs e.1)

pub each_drop : {A : Type 0} (P : A → Type 0) (k : ℕ) (xs : List A) → Each P xs → Each P (drop k xs)
each_drop P zero xs e = e
each_drop P (suc k) [] e = tt
each_drop P (suc k) (x ∷ xs) e = each_drop P k xs e.1

pub each_append : {A : Type 0} (P : A → Type 0) (xs ys : List A) → Each P xs → Each P ys → Each P (xs ++ ys)
each_append P [] ys d e = e
each_append P (x ∷ xs) ys d e = (d.0, each_append P xs ys d.1 e)

pub each_set : {A : Type 0} (P : A → Type 0) (xs : List A) (i : ℕ) (a : A) → P a → Each P xs → Each P (set xs i a)
each_set P [] i a p e = tt
each_set P (x ∷ xs) zero a p e = (p, e.1)
each_set P (x ∷ xs) (suc i) a p e = (e.0, each_set P xs i a p e.1)

pub each_at : {A : Type 0} (P : A → Type 0) (xs : List A) (i : ℕ) (d : A) → P d → Each P xs → P (get_or xs i d)
each_at P [] i d p e = p
each_at P (x ∷ xs) zero d p e = e.0
each_at P (x ∷ xs) (suc i) d p e = each_at P xs i d p e.1

pub each_prop : {A : Type 0} (P : A → Type 0) → ((a : A) → IsProp (P a)) → (xs : List A) → IsProp (Each P xs)
each_prop P f [] = Unit-prop
each_prop P f (x ∷ xs) = ×_prop (f x) (each_prop P f xs)

-- what holds of each holds of a number that is in the list
pub each_in : (P : ℕ → Type 0) (xs : List ℕ) (i : ℕ) → Each P xs → is_in i xs ≡ true → P i
each_in P [] i e p = absurd (both_ways false refl p)
each_in P (x ∷ xs) i e p = test (eqb x i) refl p (each_in P xs i e.1)
  where
    test : (b : Bool) → eqb x i ≡ b → (b || is_in i xs) ≡ true → (is_in i xs ≡ true → P i) → P i
    test true q r ih = subst P (eqb-true x i q) e.0
    test false q r ih = ih r

pub is_in_append : (i : ℕ) (xs ys : List ℕ) → is_in i (xs ++ ys) ≡ (is_in i xs || is_in i ys)
is_in_append i [] ys = refl
is_in_append i (x ∷ xs) ys = test (eqb x i) (is_in_append i xs ys)
  where
    test : (b : Bool) → is_in i (xs ++ ys) ≡ (is_in i xs || is_in i ys) → (b || is_in i (xs ++ ys)) ≡ ((b || is_in i xs) || is_in i ys)
    test true e = refl
    test false e = e

is_in_take : (x k : ℕ) (xs : List ℕ) → is_in x xs ≡ false → is_in x (take k xs) ≡ false
is_in_take x zero xs e = refl
is_in_take x (suc k) [] e = refl
is_in_take x (suc k) (y ∷ ys) e = let p = or_parts (eqb y x) (is_in x ys) e in or_from (eqb y x) (is_in x (take k ys)) p.0 (is_in_take x k ys p.1)

is_in_drop : (x k : ℕ) (xs : List ℕ) → is_in x xs ≡ false → is_in x (drop k xs) ≡ false
is_in_drop x zero xs e = e
is_in_drop x (suc k) [] e = refl
is_in_drop x (suc k) (y ∷ ys) e = is_in_drop x k ys (or_parts (eqb y x) (is_in x ys) e).1

pub is_in_from_drop : (x k : ℕ) (xs : List ℕ) → is_in x (drop k xs) ≡ true → is_in x xs ≡ true
is_in_from_drop x zero xs e = e
is_in_from_drop x (suc k) [] e = e
is_in_from_drop x (suc k) (y ∷ ys) e = or_right (eqb y x) (is_in x ys) (is_in_from_drop x k ys e)

pub different_take : (k : ℕ) (xs : List ℕ) → Different xs → Different (take k xs)
different_take zero xs d = tt
different_take (suc k) [] d = tt
different_take (suc k) (x ∷ xs) d = (is_in_take x k xs d.0, different_take k xs d.1)

-- of different members, those taken are not among those dropped
pub taken_apart : (k : ℕ) (xs : List ℕ) → Different xs → Each (λ e. is_in e (drop k xs) ≡ false) (take k xs)
taken_apart zero xs d = tt
taken_apart (suc k) [] d = tt
taken_apart (suc k) (x ∷ xs) d = (is_in_drop x k xs d.0, taken_apart k xs d.1)
