-- A list of different numbers below n has as many members as its set has below n; so an order has as many as are reached.
use Rattle.std.proofs.Common.{◌≡◌, ℕ, zero, suc, ◌<◌, true, false, ◌||◌, eqb, List, [], ◌∷◌, length, sym, refl, ap, ◌∙◌, arith}
use Rattle.std.proofs.lemmas.Bool.{eq-eqb, ne_eqb, or_left, or_right}
use Rattle.tables.specs.Tables.{Tables, used}
use Rattle.marks.specs.Sets.{count_below}
use Rattle.heaps.specs.Lists.{is_in, Different}
use Rattle.heaps.specs.Reached.{is_reached, reached_count}
use Rattle.heaps.specs.LevelLaws.{Stands}
use Rattle.heaps.proofs.CountLaws.{count_same, count_added}
use Rattle.collectors.specs.Orders.{Orders}
use Rattle.collectors.proofs.PlacedMoves.{reached_inside}

count_none : (n : ℕ) → count_below (λ k. false) n ≡ 0
unfolding count_below
count_none zero = refl
count_none (suc n) = let a = count_none n in omega arith

pub count_list : (xs : List ℕ) (n : ℕ) → Different xs → ((x : ℕ) → is_in x xs ≡ true → x < n) → count_below (λ k. is_in k xs) n ≡ length xs
count_list [] n v inside = count_none n
count_list (x ∷ xs) n v inside =
    count_added (λ k. is_in k xs) (λ k. is_in k (x ∷ xs)) x n (inside x (or_left (eqb x x) (is_in x xs) (eq-eqb x x refl))) v.0 (or_left (eqb x x) (is_in x xs) (eq-eqb x x refl))
    (λ k ne. ap (λ b. b || is_in k xs) (ne_eqb x k (λ e. ne (sym e))))
    ∙ ap suc (count_list xs n v.1 (λ y e. inside y (or_right (eqb x y) (is_in y xs) e)))

pub count_order : (t : Tables) → Stands t → (order : List ℕ) (top : ℕ → ℕ) → Orders t order top → length order ≡ reached_count t
count_order t st order top o =
    sym (count_list order (used t) o.different (λ x e. reached_inside t st order top o x (sym (o.members x) ∙ e)))
    ∙ count_same (λ k. is_in k order) (is_reached t) (used t) (λ k lt. o.members k)
