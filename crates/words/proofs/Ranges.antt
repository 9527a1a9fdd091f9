-- What `any` over a range of numbers tells of them.
use Rattle.std.proofs.Common.{◌≡◌, ℕ, ◌+◌, ◌-◌, ◌<◌, ◌≤◌, Bool, true, false, List, length, get_or, Option, MatchBool, MatchOption, sym, refl, ◌∙◌, subst, arith}
use Rattle.std.proofs.lemmas.Bool.{true≢false, false≢true}
use Rattle.std.specs.declared.ops.Range.{Range}
use Rattle.std.specs.Fn.{Called, Mut}
use Rattle.std.specs.Iterator.{YieldsThen}
use Rattle.std.specs.List.{FoldsTo, AllWithin, HoldsAt, range_with_len}
use Rattle.std.proofs.iter.Yields.{nat_range_steps}
use Rattle.std.proofs.lemmas.Iterator.{cases_from_any, YieldsList-from_range}
use Rattle.std.proofs.lemmas.List.FromFn.{length-range_with_len, get_or-range_with_len}
use Rattle.heaps.specs.Reached.{any_from}
use Rattle.heaps.proofs.RuleTestsBasics.{from_some, from_none}

-- What a call of `any` over the range s ran.
abbrev pub RanAny : {F : Type 0} → Mut F (ℕ × Unit {0}) Bool → Range ℕ → Range ℕ → F → Bool → Type 0
RanAny {F} g s u f r =
    (xs : List ℕ) × (o : Option ℕ) × (j : F) × YieldsThen nat_range_steps s xs o u × FoldsTo (λ p x q. Called g p (x, tt) false q) f xs j
    × MatchOption o (r ≡ false) (λ x. (r ≡ true) × ((h : F) × Called g j (x, tt) true h))

-- One of the numbers has Yes where it answered true, and each has No where it answered false.
pub any_in_range : {F : Type 0} {g : Mut F (ℕ × Unit {0}) Bool} (s u : Range ℕ) (f : F) (r : Bool) (Yes No : ℕ → Type 0) → RanAny g s u f r
    → ((x : ℕ) (q : F) → Called g f (x, tt) true q → Yes x) → ((x : ℕ) (q : F) → Called g f (x, tt) false q → (q ≡ f) × No x)
    → (r ≡ true → (k : ℕ) × (s.start ≤ k) × (k < s.end) × Yes k) × (r ≡ false → (k : ℕ) → s.start ≤ k → k < s.end → No k)
any_in_range s u f r Yes No d hit miss = by r (cases_from_any u f r Yes No d (YieldsList-from_range s.start s.end _ refl refl) hit miss)
  where
    all : List ℕ
    all = range_with_len s.start (s.end - s.start)

    long : length all ≡ s.end - s.start
    long = length-range_with_len s.start (s.end - s.start)

    at : (k : ℕ) → k < s.end - s.start → get_or all k 0 ≡ s.start + k
    at k lt = get_or-range_with_len s.start (s.end - s.start) k 0 lt

    by : (b : Bool) → MatchBool b ((k : ℕ) × (k < length all) × HoldsAt Yes all k) (AllWithin No all 0 (length all))
        → (b ≡ true → (k : ℕ) × (s.start ≤ k) × (k < s.end) × Yes k) × (b ≡ false → (k : ℕ) → s.start ≤ k → k < s.end → No k)
    by true h =
        let lt : h.0 < s.end - s.start = omega (arith, long, h.1) in
        (λ e. (s.start + h.0, omega arith, omega arith, subst Yes (at h.0 lt) (h.2 0)), λ e. absurd (true≢false e))
    by false h = (
      λ e. absurd (false≢true e),
      λ e k a b.
          let place : get_or all (k - s.start) 0 ≡ k = omega (arith, at (k - s.start) (omega arith)) in
          subst No place (h (k - s.start) 0 (omega arith) (omega (arith, long))),
    )

-- The same, as the test that the rules name.
pub any_told : {F : Type 0} {g : Mut F (ℕ × Unit {0}) Bool} (s u : Range ℕ) (f : F) (r : Bool) (p : ℕ → Bool) (n m : ℕ) → RanAny g s u f r
    → s.start ≡ n → s.end ≡ n + m
    → ((x : ℕ) (q : F) → Called g f (x, tt) true q → n ≤ x → x < n + m → p x ≡ true)
    → ((x : ℕ) (q : F) → Called g f (x, tt) false q → (q ≡ f) × (n ≤ x → x < n + m → p x ≡ false))
    → r ≡ any_from n m p
any_told s u f r p n m d a b hit miss = by r refl
  where
    told : (r ≡ true → (k : ℕ) × (s.start ≤ k) × (k < s.end) × (n ≤ k → k < n + m → p k ≡ true)) × (r ≡ false → (k : ℕ) → s.start ≤ k → k < s.end → n ≤ k → k < n + m → p k ≡ false)
    told = any_in_range s u f r (λ x. n ≤ x → x < n + m → p x ≡ true) (λ x. n ≤ x → x < n + m → p x ≡ false) d hit miss

    by : (v : Bool) → r ≡ v → r ≡ any_from n m p
    by true e = let h = told.0 e in e ∙ sym (from_some p n m h.0 (omega arith) (omega arith) (h.3 (omega arith) (omega arith)))
    by false e = e ∙ sym (from_none p n m (λ k low high. told.1 e k (omega arith) (omega arith) low high))
