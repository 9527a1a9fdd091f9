-- What the test for reached cells finds is reached.
use Rattle.std.proofs.Common.{◌≡◌, ℕ, zero, suc, ◌+◌, ◌<◌, ◌≤◌, Bool, true, false, eqb, List, [], ◌∷◌, refl, subst, ⊎_elim, arith}
use Rattle.std.proofs.lemmas.Bool.{both_ways, eqb-true, or_cases}
use Rattle.cells.specs.declared.cell.Cell.{Cell}
use Rattle.heaps.specs.Lists.{Among, here, further}
use Rattle.heaps.specs.Leads.{Heap, first, many}
use Rattle.heaps.specs.Reached.{Reaches, direct, onward, any_from, within, reached_by}

any_found : (n m : ℕ) (p : ℕ → Bool) → any_from n m p ≡ true → (j : ℕ) × (n ≤ j) × (j < n + m) × (p j ≡ true)
any_found n zero p e = absurd (both_ways false refl e)
any_found n (suc m) p e =
    ⊎_elim
    (λ q. (n, omega arith, omega arith, q))
    (λ q. let f = any_found (suc n) m p q in let a = f.1 in let b = f.2 in (f.0, omega arith, omega arith, f.3))
    (or_cases (p n) (any_from (suc n) m p) e)

module _ (h : Heap) (ws : List Cell) where
  within_reached : (g i k : ℕ) → Reaches h ws i → within g h i k ≡ true → Reaches h ws k
  within_reached zero i k r e = subst (Reaches h ws) (eqb-true i k e) r
  within_reached (suc g) i k r e =
      ⊎_elim
      (λ q. subst (Reaches h ws) (eqb-true i k q) r)
      (λ q. let f = any_found (first i (h i)) (many (h i)) (λ j. within g h j k) q in within_reached g f.0 k (onward r (f.1, f.2)) f.3)
      (or_cases (eqb i k) (any_from (first i (h i)) (many (h i)) (λ j. within g h j k)) e)

  some_reached : (g k : ℕ) (vs : List Cell) → ((w : Cell) → Among w vs → Among w ws) → reached_by g h vs k ≡ true → Reaches h ws k
  some_reached g k [] sub e = absurd (both_ways false refl e)
  some_reached g k (v ∷ vs) sub e =
      ⊎_elim
      (λ q. let f = any_found (first 0 v) (many v) (λ j. within g h j k) q in within_reached g f.0 k (direct (sub v here) (f.1, f.2)) f.3)
      (λ q. some_reached g k vs (λ w m. sub w (further m)) q)
      (or_cases (any_from (first 0 v) (many v) (λ j. within g h j k)) (reached_by g h vs k) e)

  pub found_reached : (g k : ℕ) → reached_by g h ws k ≡ true → Reaches h ws k
  found_reached g k e = some_reached g k ws (λ w m. m) e
