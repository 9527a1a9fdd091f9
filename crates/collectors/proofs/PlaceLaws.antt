-- Lists of numbers: where a member stands, members that are kept, and members that are renamed one-to-one.
use Rattle.std.proofs.Common.{◌≡◌, ℕ, zero, suc, ◌<◌, ◌≤◌, Bool, true, false, cond, ◌&&◌, ◌||◌, eqb, List, [], ◌∷◌, ◌++◌, map, length, get_or, take, drop, sym, refl, ap, ◌∙◌, subst, ap₂, ⊎_elim, arith}
use Rattle.std.proofs.lemmas.Bool.{both_ways, eqb-true, eq-eqb, ne_eqb, or_cases, or_left, or_right, and_from}
use Rattle.heaps.specs.Lists.{Each, is_in, Different}
use Rattle.collectors.specs.Placing.{kept, place_in}

-- A member stands at its place,
pub place_holds : (xs : List ℕ) (i d : ℕ) → is_in i xs ≡ true → get_or xs (place_in xs i) d ≡ i
place_holds [] i d e = absurd (both_ways false refl e)
place_holds (x ∷ xs) i d e = by (eqb x i) refl (place_holds xs i d)
  where
    by : (b : Bool) → eqb x i ≡ b → (is_in i xs ≡ true → get_or xs (place_in xs i) d ≡ i) → get_or (x ∷ xs) (cond b 0 (suc (place_in xs i))) d ≡ i
    by true q r = eqb-true x i q
    by false q r = r (⊎_elim (λ p. absurd (both_ways (eqb x i) q p)) (λ p. p) (or_cases (eqb x i) (is_in i xs) e))

pub place_inside : (xs : List ℕ) (i : ℕ) → is_in i xs ≡ true → place_in xs i < length xs
place_inside [] i e = absurd (both_ways false refl e)
place_inside (x ∷ xs) i e = by (eqb x i) refl (place_inside xs i)
  where
    by : (b : Bool) → eqb x i ≡ b → (is_in i xs ≡ true → place_in xs i < length xs) → cond b 0 (suc (place_in xs i)) < suc (length xs)
    by true q r = omega arith
    by false q r = let l = r (⊎_elim (λ p. absurd (both_ways (eqb x i) q p)) (λ p. p) (or_cases (eqb x i) (is_in i xs) e)) in omega arith

-- and where members differ, the place of what stands at a place is that place.
pub place_back : (xs : List ℕ) (k d : ℕ) → Different xs → k < length xs → place_in xs (get_or xs k d) ≡ k
place_back [] k d v lt = absurd (omega arith)
place_back (x ∷ xs) zero d v lt = ap (λ b. cond b 0 (suc (place_in xs x))) (eq-eqb x x refl)
place_back (x ∷ xs) (suc k) d v lt = by (eqb x (get_or xs k d)) refl (place_back xs k d v.1 (omega arith))
  where
    in_rest : (ys : List ℕ) (m : ℕ) → m < length ys → is_in (get_or ys m d) ys ≡ true
    in_rest [] m l = absurd (omega arith)
    in_rest (y ∷ ys) zero l = or_left (eqb y y) (is_in y ys) (eq-eqb y y refl)
    in_rest (y ∷ ys) (suc m) l = or_right (eqb y (get_or ys m d)) (is_in (get_or ys m d) ys) (in_rest ys m (omega arith))

    by : (b : Bool) → eqb x (get_or xs k d) ≡ b → place_in xs (get_or xs k d) ≡ k → cond b 0 (suc (place_in xs (get_or xs k d))) ≡ suc k
    by true q r = absurd (both_ways (is_in x xs) v.0 (subst (λ y. is_in y xs ≡ true) (sym (eqb-true x (get_or xs k d) q)) (in_rest xs k (omega arith))))
    by false q r = ap suc r

-- Members that are kept.

pub kept_append : (p : ℕ → Bool) (xs ys : List ℕ) → kept p (xs ++ ys) ≡ kept p xs ++ kept p ys
kept_append p [] ys = refl
kept_append p (x ∷ xs) ys = by (p x) (kept_append p xs ys)
  where
    by : (b : Bool) → kept p (xs ++ ys) ≡ kept p xs ++ kept p ys → cond b (x ∷ kept p (xs ++ ys)) (kept p (xs ++ ys)) ≡ cond b (x ∷ kept p xs) (kept p xs) ++ kept p ys
    by true r = ap (λ l. x ∷ l) r
    by false r = r

pub in_kept : (p : ℕ → Bool) (xs : List ℕ) (i : ℕ) → is_in i (kept p xs) ≡ (p i && is_in i xs)
in_kept p [] i = none (p i)
  where
    none : (b : Bool) → false ≡ (b && false)
    none true = refl
    none false = refl
in_kept p (x ∷ xs) i = by (p x) refl (eqb x i) refl (in_kept p xs i)
  where
    miss : (a b c : Bool) → a ≡ (b && c) → (false || a) ≡ (b && (false || c))
    miss a true c e = e
    miss a false c e = e

    by : (b : Bool) → p x ≡ b → (c : Bool) → eqb x i ≡ c → is_in i (kept p xs) ≡ (p i && is_in i xs) → is_in i (cond b (x ∷ kept p xs) (kept p xs)) ≡ (p i && (eqb x i || is_in i xs))
    by true q true r e =
        let same = eqb-true x i r in
        or_left (eqb x i) (is_in i (kept p xs)) r ∙ sym (and_from (p i) (eqb x i || is_in i xs) (ap p (sym same) ∙ q) (or_left (eqb x i) (is_in i xs) r))
    by true q false r e = ap (λ b. b || is_in i (kept p xs)) r ∙ miss (is_in i (kept p xs)) (p i) (is_in i xs) e ∙ ap (λ b. p i && (b || is_in i xs)) (sym r)
    by false q true r e =
        let same = eqb-true x i r in
        let off : p i ≡ false = ap p (sym same) ∙ q in
        e ∙ ap (λ b. b && is_in i xs) off ∙ sym (ap (λ b. b && (eqb x i || is_in i xs)) off)
    by false q false r e = e ∙ ap (λ b. p i && (b || is_in i xs)) (sym r)

pub different_kept : (p : ℕ → Bool) (xs : List ℕ) → Different xs → Different (kept p xs)
different_kept p [] v = tt
different_kept p (x ∷ xs) v = by (p x) (different_kept p xs v.1)
  where
    out : (b : Bool) → (b && is_in x xs) ≡ false
    out true = v.0
    out false = refl

    by : (b : Bool) → Different (kept p xs) → Different (cond b (x ∷ kept p xs) (kept p xs))
    by true r = (in_kept p xs x ∙ out (p x), r)
    by false r = r

pub each_kept : (P : ℕ → Type 0) (p : ℕ → Bool) (xs : List ℕ) → Each P xs → Each (λ x. P x × (p x ≡ true)) (kept p xs)
each_kept P p [] e = tt
each_kept P p (x ∷ xs) e = by (p x) refl (each_kept P p xs e.1)
  where
    by : (b : Bool) → p x ≡ b → Each (λ y. P y × (p y ≡ true)) (kept p xs) → Each (λ y. P y × (p y ≡ true)) (cond b (x ∷ kept p xs) (kept p xs))
    by true q r = ((e.0, q), r)
    by false q r = r

pub length_kept : (p : ℕ → Bool) (xs : List ℕ) → length (kept p xs) ≤ length xs
length_kept p [] = omega arith
length_kept p (x ∷ xs) = by (p x) (length_kept p xs)
  where
    by : (b : Bool) → length (kept p xs) ≤ length xs → length (cond b (x ∷ kept p xs) (kept p xs)) ≤ suc (length xs)
    by true l = omega arith
    by false l = omega arith

-- those kept of the first n, and of all
pub kept_take : (p : ℕ → Bool) (n m : ℕ) (xs : List ℕ) → n ≤ m → length (kept p (take n xs)) ≤ length (kept p (take m xs))
kept_take p zero m xs le = omega arith
kept_take p (suc n) zero xs le = absurd (omega arith)
kept_take p (suc n) (suc m) [] le = omega arith
kept_take p (suc n) (suc m) (x ∷ xs) le = by (p x) (kept_take p n m xs (omega arith))
  where
    by : (b : Bool) → length (kept p (take n xs)) ≤ length (kept p (take m xs)) → length (cond b (x ∷ kept p (take n xs)) (kept p (take n xs))) ≤ length (cond b (x ∷ kept p (take m xs)) (kept p (take m xs)))
    by true l = omega arith
    by false l = l

pub kept_part : (p : ℕ → Bool) (n : ℕ) (xs : List ℕ) → length (kept p (take n xs)) ≤ length (kept p xs)
kept_part p zero xs = omega arith
kept_part p (suc n) [] = omega arith
kept_part p (suc n) (x ∷ xs) = by (p x) (kept_part p n xs)
  where
    by : (b : Bool) → length (kept p (take n xs)) ≤ length (kept p xs) → length (cond b (x ∷ kept p (take n xs)) (kept p (take n xs))) ≤ length (cond b (x ∷ kept p xs) (kept p xs))
    by true l = omega arith
    by false l = l

-- past those kept of the first n come those kept of the others
pub kept_drop : (p : ℕ → Bool) (n : ℕ) (xs : List ℕ) → drop (length (kept p (take n xs))) (kept p xs) ≡ kept p (drop n xs)
kept_drop p zero xs = refl
kept_drop p (suc n) [] = refl
kept_drop p (suc n) (x ∷ xs) = by (p x) (kept_drop p n xs)
  where
    by : (b : Bool) → drop (length (kept p (take n xs))) (kept p xs) ≡ kept p (drop n xs) → drop (length (cond b (x ∷ kept p (take n xs)) (kept p (take n xs)))) (cond b (x ∷ kept p xs) (kept p xs)) ≡ kept p (drop n xs)
    by true r = r
    by false r = r

pub take_kept : (p : ℕ → Bool) (n : ℕ) (xs : List ℕ) → take (length (kept p (take n xs))) (kept p xs) ≡ kept p (take n xs)
take_kept p zero xs = refl
take_kept p (suc n) [] = refl
take_kept p (suc n) (x ∷ xs) = by (p x) (take_kept p n xs)
  where
    by : (b : Bool) → take (length (kept p (take n xs))) (kept p xs) ≡ kept p (take n xs) → take (length (cond b (x ∷ kept p (take n xs)) (kept p (take n xs)))) (cond b (x ∷ kept p xs) (kept p xs)) ≡ cond b (x ∷ kept p (take n xs)) (kept p (take n xs))
    by true r = ap (λ l. x ∷ l) r
    by false r = r

-- Members that are renamed.

pub each_map_of : {A B : Type 0} (P : B → Type 0) (g : A → B) (xs : List A) → Each (λ x. P (g x)) xs → Each P (map g xs)
each_map_of P g [] e = tt
each_map_of P g (x ∷ xs) e = (e.0, each_map_of P g xs e.1)

pub in_map : (f : ℕ → ℕ) (xs : List ℕ) (i : ℕ) → ((j : ℕ) → is_in j xs ≡ true → f j ≡ f i → j ≡ i) → is_in (f i) (map f xs) ≡ is_in i xs
in_map f [] i one = refl
in_map f (x ∷ xs) i one = ap₂ ◌||◌ (by (eqb x i) refl) (in_map f xs i (λ j e q. one j (or_right (eqb x j) (is_in j xs) e) q))
  where
    by : (b : Bool) → eqb x i ≡ b → eqb (f x) (f i) ≡ eqb x i
    by true q = eq-eqb (f x) (f i) (ap f (eqb-true x i q)) ∙ sym q
    by false q = ne_eqb (f x) (f i) (λ s. both_ways (eqb x i) q (eq-eqb x i (one x (or_left (eqb x x) (is_in x xs) (eq-eqb x x refl)) s))) ∙ sym q

pub different_map : (f : ℕ → ℕ) (xs : List ℕ) → ((i j : ℕ) → is_in i xs ≡ true → is_in j xs ≡ true → f i ≡ f j → i ≡ j) → Different xs → Different (map f xs)
different_map f [] one v = tt
different_map f (x ∷ xs) one v = (
  in_map f xs x (λ j e q. one j x (or_right (eqb x j) (is_in j xs) e) (or_left (eqb x x) (is_in x xs) (eq-eqb x x refl)) q) ∙ v.0,
  different_map f xs (λ i j a b q. one i j (or_right (eqb x i) (is_in i xs) a) (or_right (eqb x j) (is_in j xs) b) q) v.1,
)
