-- Runs of neighbouring reached cells: where the run of a reached cell begins, and how long it is.
use Rattle.std.proofs.Common.{◌≡◌, ℕ, zero, suc, ◌+◌, ◌-◌, ◌<◌, ◌≤◌, Bool, true, false, cond, ◌⊎◌, refl, ap, subst, inl, inr, ⊎_elim, arith}
use Rattle.std.proofs.lemmas.Bool.{both_ways, cases_lt}
use Rattle.tables.specs.Tables.{Tables, used}
use Rattle.heaps.specs.Reached.{is_reached}
use Rattle.heaps.specs.LevelLaws.{Stands}
use Rattle.heaps.proofs.ReachedUsed.{reached_used}
use Rattle.heaps.proofs.ReachedDecided.{reached_decided}
use Rattle.collectors.specs.Copying.{run_start, run_length}

module _ (t : Tables) where
  pub start_low : (i : ℕ) → run_start t i ≤ i
  start_low zero = omega arith
  start_low (suc i) = by (is_reached t i) (start_low i)
    where
      by : (b : Bool) → run_start t i ≤ i → cond b (run_start t i) (suc i) ≤ suc i
      by true le = omega arith
      by false le = omega arith

  -- all cells from the start up to the cell are reached
  pub start_all : (i k : ℕ) → is_reached t i ≡ true → run_start t i ≤ k → k ≤ i → is_reached t k ≡ true
  start_all zero k e le lt = subst (λ x. is_reached t x ≡ true) (let z : 0 ≡ k = omega arith in z) e
  start_all (suc i) k e le lt = by (is_reached t i) refl le (start_all i k)
    where
      here : suc i ≤ k → is_reached t k ≡ true
      here q = subst (λ x. is_reached t x ≡ true) (let z : suc i ≡ k = omega arith in z) e

      by : (b : Bool) → is_reached t i ≡ b → cond b (run_start t i) (suc i) ≤ k → (is_reached t i ≡ true → run_start t i ≤ k → k ≤ i → is_reached t k ≡ true) → is_reached t k ≡ true
      by true q l rest = ⊎_elim (λ (x : k < suc i). rest q l (omega arith)) (λ (x : suc i ≤ k). here x) (cases_lt k (suc i))
      by false q l rest = here l

  -- the cell before the start is not reached
  pub start_first : (i k : ℕ) → suc k ≡ run_start t i → is_reached t k ≡ false
  start_first zero k e = absurd (omega arith)
  start_first (suc i) k e = by (is_reached t i) refl e (start_first i k)
    where
      by : (b : Bool) → is_reached t i ≡ b → suc k ≡ cond b (run_start t i) (suc i) → (suc k ≡ run_start t i → is_reached t k ≡ false) → is_reached t k ≡ false
      by true q s rest = rest s
      by false q s rest = subst (λ x. is_reached t x ≡ false) (let z : i ≡ k = omega arith in z) q

  -- all cells of the length are reached
  pub length_all : (g s k : ℕ) → s ≤ k → k < s + run_length g t s → is_reached t k ≡ true
  length_all zero s k le lt = absurd (omega arith)
  length_all (suc g) s k le lt = by (is_reached t s) refl lt (length_all g (suc s) k)
    where
      by : (b : Bool) → is_reached t s ≡ b → k < s + cond b (suc (run_length g t (suc s))) 0 → (suc s ≤ k → k < suc s + run_length g t (suc s) → is_reached t k ≡ true) → is_reached t k ≡ true
      by true q l rest = ⊎_elim (λ (x : s < k). rest (omega arith) (omega arith)) (λ (x : k ≤ s). subst (λ y. is_reached t y ≡ true) (let z : s ≡ k = omega arith in z) q) (cases_lt s k)
      by false q l rest = absurd (omega arith)

  -- reached cells side by side are within the length, as far as it may go
  pub length_covers : (g s d : ℕ) → d < g → ((k : ℕ) → s ≤ k → k ≤ s + d → is_reached t k ≡ true) → d < run_length g t s
  length_covers zero s d lt all = absurd (omega arith)
  length_covers (suc g) s d lt all = by (is_reached t s) refl d lt all (length_covers g (suc s))
    where
      by : (b : Bool) → is_reached t s ≡ b → (d : ℕ) → d < suc g → ((k : ℕ) → s ≤ k → k ≤ s + d → is_reached t k ≡ true)
          → ((c : ℕ) → c < g → ((k : ℕ) → suc s ≤ k → k ≤ suc s + c → is_reached t k ≡ true) → c < run_length g t (suc s)) → d < cond b (suc (run_length g t (suc s))) 0
      by true q zero l f rest = omega arith
      by true q (suc d) l f rest = let r = rest d (omega arith) (λ k a b. f k (omega arith) (omega arith)) in omega arith
      by false q d l f rest = absurd (both_ways (is_reached t s) q (f s (omega arith) (omega arith)))

  -- the cell after the length is not reached, unless the length is as long as it may be
  pub length_ends : (g s : ℕ) → (is_reached t (s + run_length g t s) ≡ false) ⊎ (run_length g t s ≡ g)
  length_ends zero s = inr refl
  length_ends (suc g) s = by (is_reached t s) refl (length_ends g (suc s))
    where
      by : (b : Bool) → is_reached t s ≡ b → (is_reached t (suc s + run_length g t (suc s)) ≡ false) ⊎ (run_length g t (suc s) ≡ g)
          → (is_reached t (s + cond b (suc (run_length g t (suc s))) 0) ≡ false) ⊎ (cond b (suc (run_length g t (suc s))) 0 ≡ suc g)
      by true q (inl e) = inl (subst (λ x. is_reached t x ≡ false) (let z : suc s + run_length g t (suc s) ≡ s + suc (run_length g t (suc s)) = omega arith in z) e)
      by true q (inr e) = inr (ap suc e)
      by false q r = inl (subst (λ x. is_reached t x ≡ false) (let z : s ≡ s + 0 = omega arith in z) q)

-- The run of a reached cell: from `start` on so many cells, all reached, the cell among them, and none reached right before or after.
pub record Run (t : Tables) (i start many : ℕ) : Type 0 where
  pub all : (k : ℕ) → start ≤ k → k < start + many → is_reached t k ≡ true
  pub low : start ≤ i
  pub high : i < start + many
  pub first : (k : ℕ) → suc k ≡ start → is_reached t k ≡ false
  pub end : is_reached t (start + many) ≡ false

pub run_of : (t : Tables) → Stands t → (i : ℕ) → is_reached t i ≡ true → Run t i (run_start t i) (run_length (used t) t (run_start t i))
run_of t st i e = record {
  all = length_all t (used t) (run_start t i);
  low = low;
  high = let l = low in let m = inside in let c = length_covers t (used t) (run_start t i) (i - run_start t i) (omega arith) (λ k a b. start_all t i k e a (omega arith)) in omega arith;
  first = start_first t i;
  end = by (length_ends t (used t) (run_start t i));
}
  where
    inside : i < used t
    inside = reached_used t st.0 i ((reached_decided t st.0 i).0 e)

    low : run_start t i ≤ i
    low = start_low t i

    out : (k : ℕ) → used t ≤ k → is_reached t k ≡ false
    out k le = test (is_reached t k) refl
      where
        test : (b : Bool) → is_reached t k ≡ b → is_reached t k ≡ false
        test true q = let l = reached_used t st.0 k ((reached_decided t st.0 k).0 q) in absurd (omega arith)
        test false q = q

    by : (is_reached t (run_start t i + run_length (used t) t (run_start t i)) ≡ false) ⊎ (run_length (used t) t (run_start t i) ≡ used t) → is_reached t (run_start t i + run_length (used t) t (run_start t i)) ≡ false
    by (inl q) = q
    by (inr q) = out (run_start t i + run_length (used t) t (run_start t i)) (omega arith)
