-- A number that falls with each step of unification: the measure of a loop that takes these steps.
use Rattle.std.proofs.Common.{◌≡◌, ℕ, zero, suc, ◌<◌, List, length, sym, refl, ap, subst, arith}
use Rattle.terms.specs.Unifiers.{Subst}
use Rattle.terms.specs.Robinson.{Goal, Next, stop, go, step, enough}
use Rattle.terms.proofs.FallLaws.{size_goals}
use Rattle.terms.proofs.HaltLaws.{Halts, HaltsAt, names_of, halts_goals}

-- The steps that are taken, out of at most k.
abbrev left_at : (Subst → List Goal → ℕ) → Next → ℕ
left_at r (stop o) = 0
left_at r (go σ gs) = suc (r σ gs)

abbrev left_of : ℕ → Subst → List Goal → ℕ
left_of zero σ gs = 0
left_of (suc k) σ gs = left_at (left_of k) (step σ gs)

-- Where two numbers of steps both suffice, the same steps are taken.
same_left : (k j : ℕ) (σ : Subst) (gs : List Goal) → Halts k σ gs → Halts j σ gs → left_of k σ gs ≡ left_of j σ gs
same_left zero j σ gs h i = absurd h
same_left (suc k) zero σ gs h i = absurd i
same_left (suc k) (suc j) σ gs h i = by (step σ gs) h i (same_left k j)
  where
    by : (n : Next) → HaltsAt (Halts k) n → HaltsAt (Halts j) n
        → ((τ : Subst) (hs : List Goal) → Halts k τ hs → Halts j τ hs → left_of k τ hs ≡ left_of j τ hs) → left_at (left_of k) n ≡ left_at (left_of j) n
    by (stop o) h i ih = refl
    by (go τ hs) h i ih = ap suc (ih τ hs h i)

abbrev fuel : List Goal → ℕ
fuel gs = enough (length (names_of gs)) (size_goals gs)

ends : (σ : Subst) (gs : List Goal) → Halts (fuel gs) σ gs
ends σ gs = halts_goals (length (names_of gs)) (size_goals gs) σ gs (omega arith) (omega arith)

-- The steps that are left until the end.
pub left : Subst → List Goal → ℕ
left σ gs = left_of (fuel gs) σ gs

pub left_falls : (σ τ : Subst) (gs hs : List Goal) → step σ gs ≡ go τ hs → left τ hs < left σ gs
unfolding left
left_falls σ τ gs hs e = let a : left_of (suc (fuel hs)) σ gs ≡ suc (left_of (fuel hs) τ hs) = ap (left_at (left_of (fuel hs))) e in
    let b = same_left (fuel gs) (suc (fuel hs)) σ gs (ends σ gs) (subst (HaltsAt (Halts (fuel hs))) (sym e) (ends τ hs)) in omega arith
