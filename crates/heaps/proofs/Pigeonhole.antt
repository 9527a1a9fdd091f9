-- There are at most n different numbers below n.
use Rattle.std.proofs.Common.{◌≡◌, ℕ, ◌<◌, ◌≤◌, false, ◌||◌, eqb, List, [], ◌∷◌, length, refl, arith}
use Rattle.std.proofs.lemmas.Bool.{eq-eqb, ne_eqb, or_left}
use Rattle.marks.specs.Sets.{count_below}
use Rattle.heaps.specs.Lists.{Each, is_in, Different}
use Rattle.heaps.proofs.CountLaws.{count_at_most, count_added}

-- they are counted one by one
count_different : (n : ℕ) (xs : List ℕ) → Different xs → Each (λ x. x < n) xs → length xs ≤ count_below (λ k. is_in k xs) n
count_different n [] d b = omega arith
count_different n (x ∷ xs) d b =
    let rest = count_different n xs d.1 b.1 in
    let one = count_added (λ k. is_in k xs) (λ k. is_in k (x ∷ xs)) x n b.0 d.0
    (or_left (eqb x x) (is_in x xs) (eq-eqb x x refl)) (λ k ne. other k (ne_eqb x k (λ e. ne (omega arith)))) in
    omega arith
  where
    other : (k : ℕ) → eqb x k ≡ false → (eqb x k || is_in k xs) ≡ is_in k xs
    other k e = rw e

pub pigeonhole : (n : ℕ) (xs : List ℕ) → Different xs → Each (λ x. x < n) xs → length xs ≤ n
pigeonhole n xs d b =
    let most = count_at_most (λ k. is_in k xs) n in
    let all = count_different n xs d b in
    omega arith
