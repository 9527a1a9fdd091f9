-- The line of a place that a search finds: it is a 64-bit number where the line after the last place is, and the lowest line at fault.
use Rattle.std.proofs.Common.{◌≡◌, ℕ, ◌+◌, ◌^◌, ◌<◌, ◌≤◌, Bool, List, true, false, IfSome, MatchOption, get_or, length, Some, None, Option, sym, refl, ap, ◌∙◌, subst, arith}
use Rattle.std.specs.Bool.{⊤}
use Rattle.std.specs.Fn.{Called, CalledAt}
use Rattle.std.specs.Iterator.{FindsItem, FindsPosition}
use Rattle.std.specs.List.{AllWithin, HoldsAt, range_with_len}
use Rattle.std.specs.declared.ops.Range.{Range}
use Rattle.std.proofs.iter.Yields.{nat_range_steps}
use Rattle.std.proofs.lemmas.Iterator.{first_from_Range, IsFirst-from_position, YieldsList-from_range}
use Rattle.std.proofs.lemmas.List.FromFn.{length-range_with_len, get_or-range_with_len}
use denote.Param.Members.{Mut}
use denote.Ref.{Bor}
use Rattle.heaps.specs.RuleTests.{lowest_from, plus_line, or_else}
use Rattle.heaps.proofs.RuleTestsLowest.{Least, lowest_least}
use Rattle.heaps.proofs.Searches.{or_none, lowest_found, lowest_none}

module _ {F : Type 0} {g : Mut F (Bor ℕ × Unit {0}) Bool} {s : Range ℕ} {f : F} (o : Option ℕ) (n : ℕ) (u : Range ℕ)
    (ran : FindsItem nat_range_steps g s f o u) (first : s.start ≡ 0) (last : s.end ≡ n) where
  -- `find` over the numbers below n gives the lowest that passes the test.
  pub found_lowest : (p : ℕ → Bool) → ((x : ℕ) (b : Bool) (q : F) → CalledAt g f x b q → (q ≡ f) × (x < n → b ≡ p x)) → o ≡ lowest_from 0 n p
  found_lowest p computes =
      by o
      (first_from_Range s u f o (λ k. k < n → p k ≡ true) (λ k. k < n → p k ≡ false) ran
      (λ x q k lt. sym ((computes x true q k).1 lt))
      (λ x q k. let h = computes x false q k in (h.0, λ lt. sym (h.1 lt))))
    where
      by : (r : Option ℕ)
          → MatchOption r ((k : ℕ) → s.start ≤ k → k < s.end → k < n → p k ≡ false)
          (λ i. (s.start ≤ i) × (i < s.end) × (i < n → p i ≡ true) × ((k : ℕ) → s.start ≤ k → k < i → k < n → p k ≡ false))
          → r ≡ lowest_from 0 n p
      by None h = sym (lowest_none p n (λ k lt. h k (omega (arith, first)) (omega (arith, last)) lt))
      by (Some i) h =
          let below : i < n = omega (arith, h.1, last) in
          sym (lowest_found p n i below (h.2 below) (λ k lt. h.3 k (omega (arith, first)) lt (omega (arith, below))))

  -- What it gives is below n.
  pub found_below : (line : ℕ) → line + n < 2 ^ 64 → ((x : ℕ) (q : F) → CalledAt g f x false q → q ≡ f) → IfSome o (λ i. line + i < 2 ^ 64)
  found_below line fits kept =
      by o (first_from_Range s u f o (λ k. ⊤) (λ k. ⊤) ran (λ x q k. tt) (λ x q k. (kept x q k, tt)))
    where
      by : (r : Option ℕ)
          → MatchOption r ((k : ℕ) → s.start ≤ k → k < s.end → ⊤) (λ i. (s.start ≤ i) × (i < s.end) × ⊤ × ((k : ℕ) → s.start ≤ k → k < i → ⊤))
          → IfSome r (λ i. line + i < 2 ^ 64)
      by None h = tt
      by (Some i) h = omega (arith, h.1, last)

-- `position` over the numbers below n gives the lowest that passes the test.
pub position_lowest : {F : Type 0} {g : Mut F (ℕ × Unit {0}) Bool} (s u : Range ℕ) (f : F) (o : Option ℕ) (n : ℕ) (p : ℕ → Bool)
    → FindsPosition nat_range_steps g s f o u → s.start ≡ 0 → s.end ≡ n
    → ((x : ℕ) (b : Bool) (q : F) → Called g f (x, tt) b q → (q ≡ f) × (x < n → b ≡ p x)) → o ≡ lowest_from 0 n p
position_lowest s u f o n p ran first last computes =
    by o
    (IsFirst-from_position u f o (λ x. x < n → p x ≡ true) (λ x. x < n → p x ≡ false) ran
    (YieldsList-from_range s.start s.end n refl (omega (arith, first, last)))
    (λ x q k lt. sym ((computes x true q k).1 lt))
    (λ x q k. let h = computes x false q k in (h.0, λ lt. sym (h.1 lt))))
  where
    all : List ℕ
    all = range_with_len s.start n

    at : (k : ℕ) → k < n → get_or all k 0 ≡ k
    at k lt = omega (arith, first, get_or-range_with_len s.start n k 0 lt)

    by : (r : Option ℕ)
        → MatchOption r (AllWithin (λ x. x < n → p x ≡ false) all 0 (length all))
        (λ i. (i < length all) × HoldsAt (λ x. x < n → p x ≡ true) all i × AllWithin (λ x. x < n → p x ≡ false) all 0 i)
        → r ≡ lowest_from 0 n p
    by None h =
        sym (lowest_none p n (λ k lt. subst (λ x. x < n → p x ≡ false) (at k lt) (h k 0 (omega arith) (omega (arith, lt, length-range_with_len s.start n))) lt))
    by (Some i) h =
        let lt : i < n = omega (arith, h.0, length-range_with_len s.start n) in
        sym (lowest_found p n i lt (subst (λ x. x < n → p x ≡ true) (at i lt) (h.1 0) lt)
        (λ k low. let below : k < n = omega (arith, low, lt) in subst (λ x. x < n → p x ≡ false) (at k below) (h.2 k 0 (omega arith) low) below))

-- `position` over a list gives the lowest place at which the test passes.
pub listed_lowest : {A : Type 0} (p : A → Bool) (xs : List A) (d : A) (r : Option ℕ)
    → MatchOption r (AllWithin (λ x. p x ≡ false) xs 0 (length xs))
    (λ i. (i < length xs) × HoldsAt (λ x. p x ≡ true) xs i × AllWithin (λ x. p x ≡ false) xs 0 i)
    → r ≡ lowest_from 0 (length xs) (λ i. p (get_or xs i d))
listed_lowest p xs d None h = sym (lowest_none (λ i. p (get_or xs i d)) (length xs) (λ k lt. h k d (omega arith) lt))
listed_lowest p xs d (Some i) h = sym (lowest_found (λ i. p (get_or xs i d)) (length xs) i h.0 (h.1 d) (λ k lt. h.2 k d (omega arith) lt))

module _ {o : Option ℕ} (p : ℕ → Bool) (n : ℕ) (e : o ≡ lowest_from 0 n p) where
  pub found_fits : (line : ℕ) → line + n < 2 ^ 64 → IfSome o (λ i. line + i < 2 ^ 64)
  found_fits line lt = by o e
    where
      by : (r : Option ℕ) → r ≡ lowest_from 0 n p → IfSome r (λ i. line + i < 2 ^ 64)
      by None h = tt
      by (Some i) h = let f = subst (Least p 0 n) (sym h) (lowest_least p 0 n) in let below = f.1 in omega arith

  -- The line of the lowest place at fault in a part that begins on line a.
  pub part_line : {line a : ℕ} {r : Option ℕ} → line ≡ a → r ≡ plus_line line o → r ≡ plus_line a (lowest_from 0 n p)
  part_line {line} {a} {r} same h = h ∙ ap (plus_line line) e ∙ ap (λ (k : ℕ). plus_line k (lowest_from 0 n p)) same

pub only_part : {r x : Option ℕ} → r ≡ x → r ≡ or_else x None
only_part {r} {x} e = e ∙ sym (or_none x)

-- The next part is gone through where this one has no fault.
pub part_then : {P : Type 0} {a r x z : Option ℕ} → a ≡ x → MatchOption a P (λ i. r ≡ Some i) → (P → r ≡ z) → r ≡ or_else x z
part_then {P} {a} {r} {x} {z} e h next = by a h ∙ ap (λ (o : Option ℕ). or_else o z) e
  where
    by : (o : Option ℕ) → MatchOption o P (λ i. r ≡ Some i) → r ≡ or_else o z
    by None h = next h
    by (Some i) h = h
