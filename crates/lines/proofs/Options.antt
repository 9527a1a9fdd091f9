-- How an option comes about: from a test, or from other options.
use Rattle.std.proofs.Common.{◌≡◌, ℕ, Bool, true, false, cond, Some, None, Option, refl, subst, arith}

pub none_from : {A : Type 0} (o : Option A) → ((x : A) → o ≡ Some x → ⊥) → o ≡ None
none_from None h = refl
none_from (Some x) h = absurd (h x refl)

pub not_some : {A : Type 0} {x : A} → None ≡ Some x → ⊥
not_some {A} {x} e = let z : ◌≡◌ {A = ℕ} 0 1 = cc in omega arith

-- what holds where a test gives x, and of what else may come, holds of what comes
pub or_from : {A : Type 0} (P : A → Type 0) (b : Bool) (x : A) (o : Option A) → (b ≡ true → P x) → ((y : A) → o ≡ Some y → P y)
    → (y : A) → cond b (Some x) o ≡ Some y → P y
or_from {A} P true x o here else y e = let same : x ≡ y = cc in subst P same (here refl)
or_from P false x o here else y e = else y e
