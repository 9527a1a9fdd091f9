-- What a change of the memory does to the lists that it stands for.
use Rattle.std.proofs.Common.{◌≡◌, ℕ, ◌-◌, ◌<◌, true, ◌⊎◌, List, [], ◌∷◌, ◌++◌, map, reverse, length, get_or, take, drop, set, sym, ap, ◌∙◌, inl, inr, arith, get_or-set_other, get_or-set_same}
use Rattle.std.proofs.lemmas.List.{map-set, map_push, take-map, get_or-map, get_or-reverse, length-map, length-reverse, reverse-append, same_lists, length-set, length-drop, drop_at, take-append-drop}
use Rattle.std.proofs.lemmas.Bool.{cases_eq}
use Rattle.cells.specs.declared.cell.Cell.{Cell}
use Rattle.cells.specs.Cells.{word_of, cell_of, in_range}
use Rattle.cells.proofs.Words.{cell_of_word_of}

module _ (w : ℕ) (c : Cell) (fits : in_range c ≡ true) (is : w ≡ word_of c) where
  cell_written : cell_of w ≡ c
  cell_written = ap cell_of is ∙ cell_of_word_of c fits

  pub cells_set : (ws vs : List ℕ) (i : ℕ) → vs ≡ set ws i w → map cell_of vs ≡ set (map cell_of ws) i c
  cells_set ws vs i e = ap (map cell_of) e ∙ map-set cell_of ws i w ∙ ap (set (map cell_of ws) i) cell_written

  pub cells_push : (ws vs : List ℕ) → vs ≡ ws ++ (w ∷ []) → map cell_of vs ≡ map cell_of ws ++ (c ∷ [])
  cells_push ws vs e = ap (map cell_of) e ∙ map_push cell_of ws w ∙ ap (λ d. map cell_of ws ++ (d ∷ [])) cell_written

pub map_cut : {A B : Type 0} (f : A → B) (ws vs : List A) (n : ℕ) → vs ≡ take n ws → map f vs ≡ take n (map f ws)
map_cut f ws vs n e = ap (map f) e ∙ sym (take-map f n ws)

-- the newest stands last in memory and first in the list

pub length_turned : {A B : Type 0} (f : A → B) (xs : List A) → length (reverse (map f xs)) ≡ length xs
length_turned f xs = length-reverse (map f xs) ∙ length-map xs f

pub turned_push : {A B : Type 0} (f : A → B) (xs ys : List A) (x : A) → ys ≡ xs ++ (x ∷ []) → reverse (map f ys) ≡ f x ∷ reverse (map f xs)
turned_push f xs ys x e = ap (λ zs. reverse (map f zs)) e ∙ ap reverse (map_push f xs x) ∙ reverse-append (map f xs) (f x ∷ [])

pub turned_at : {A B : Type 0} (f : A → B) (xs : List A) (k : ℕ) (d : B) (x : A) → k < length xs
    → ((e : A) → x ≡ get_or xs (length xs - 1 - k) e) → get_or (reverse (map f xs)) k d ≡ f x
turned_at f xs k d x h is =
    let n : length (map f xs) ≡ length xs = length-map xs f in
    get_or-reverse (map f xs) k d (omega arith)
    ∙ ap (λ m. get_or (map f xs) (m - 1 - k) d) n
    ∙ get_or-map f xs (length xs - 1 - k) x d (omega arith)
    ∙ ap f (sym (is x))

-- to cut a list from its end is to drop from the front of its reversal
reverse_take : {A : Type 0} (k : ℕ) (xs : List A) → reverse (take k xs) ≡ drop (length xs - k) (reverse xs)
reverse_take k xs =
    let whole : reverse xs ≡ reverse (drop k xs) ++ reverse (take k xs) =
    ap reverse (sym (take-append-drop k xs)) ∙ reverse-append (take k xs) (drop k xs) in
    let long : length (reverse (drop k xs)) ≡ length xs - k = length-reverse (drop k xs) ∙ length-drop k xs in
    sym (ap (drop (length xs - k)) whole ∙ drop_at (reverse (drop k xs)) (reverse (take k xs)) (length xs - k) long)

pub turned_cut : {A B : Type 0} (f : A → B) (xs ys : List A) (k : ℕ) → ys ≡ take k xs → reverse (map f ys) ≡ drop (length (reverse (map f xs)) - k) (reverse (map f xs))
turned_cut f xs ys k e =
    ap reverse (map_cut f xs ys k e) ∙ reverse_take k (map f xs)
    ∙ ap (λ n. drop (n - k) (reverse (map f xs))) (sym (length-reverse (map f xs)))

pub reverse_set : {A : Type 0} (zs : List A) (k : ℕ) (y : A) → k < length zs → reverse (set zs (length zs - 1 - k) y) ≡ set (reverse zs) k y
reverse_set {A} zs k y h = same_lists _ _ (length-reverse (set zs p y) ∙ length-set zs p y ∙ sym (length-set (reverse zs) k y ∙ length-reverse zs)) at_place
  where
    p : ℕ
    p = length zs - 1 - k

    at_place : (j : ℕ) (d : A) → j < length (reverse (set zs p y)) → get_or (reverse (set zs p y)) j d ≡ get_or (set (reverse zs) k y) j d
    at_place j d low = by_place (cases_eq j k)
      where
        n : length (set zs p y) ≡ length zs
        n = length-set zs p y

        inside : j < length zs
        inside = omega (arith, length-reverse (set zs p y), n)

        turned : get_or (reverse (set zs p y)) j d ≡ get_or (set zs p y) (length zs - 1 - j) d
        turned = get_or-reverse (set zs p y) j d (omega (arith, n, inside)) ∙ ap (λ m. get_or (set zs p y) (m - 1 - j) d) n

        by_place : (j ≡ k) ⊎ (j ≡ k → ⊥) → get_or (reverse (set zs p y)) j d ≡ get_or (set (reverse zs) k y) j d
        by_place (inl e) =
            turned ∙ ap (λ q. get_or (set zs p y) (length zs - 1 - q) d) e ∙ get_or-set_same zs p y d (omega (arith, h))
            ∙ sym (ap (λ q. get_or (set (reverse zs) k y) q d) e ∙ get_or-set_same (reverse zs) k y d (omega (arith, length-reverse zs, h)))
        by_place (inr ne) =
            turned ∙ get_or-set_other zs p (length zs - 1 - j) y d (omega (arith, ne, inside, h)) ∙ sym (get_or-reverse zs j d inside)
            ∙ sym (get_or-set_other (reverse zs) k j y d ne)

pub turned_set : {A B : Type 0} (f : A → B) (xs ys : List A) (k p : ℕ) (x : A) → k < length xs → p ≡ length xs - 1 - k → ys ≡ set xs p x
    → reverse (map f ys) ≡ set (reverse (map f xs)) k (f x)
turned_set f xs ys k p x h at e =
    let n : length (map f xs) ≡ length xs = length-map xs f in
    ap (λ zs. reverse (map f zs)) e ∙ ap reverse (map-set f xs p x)
    ∙ ap (λ q. reverse (set (map f xs) q (f x))) (let same : p ≡ length (map f xs) - 1 - k = omega arith in same)
    ∙ reverse_set (map f xs) k (f x) (omega arith)
