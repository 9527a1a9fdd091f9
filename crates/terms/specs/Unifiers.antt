-- Substitutions, unifiers and most general unifiers.
use Rattle.std.specs.Prelude.{◌≡◌, ℕ}
use Rattle.terms.specs.Terms.{Term, apply}

-- A value for each variable. A variable whose value is itself counts as having none.
abbrev pub Subst : Type 0
Subst = ℕ → Term

-- The values of σ under τ.
abbrev pub compose : Subst → Subst → Subst
compose σ τ = λ n. apply τ (σ n)

-- θ makes nothing different of a variable and of the value that σ gives it. So θ extends σ.
abbrev pub Absorbs : Subst → Subst → Type 0
Absorbs θ σ = (n : ℕ) → apply θ (σ n) ≡ θ n

-- No variable that stands in a value has a value itself.
abbrev pub Idempotent : Subst → Type 0
Idempotent σ = Absorbs σ σ

abbrev pub Unifier : Subst → Term → Term → Type 0
Unifier θ t u = apply θ t ≡ apply θ u

-- Some substitution of the variables left in the values of τ gives the values of θ.
abbrev pub InstanceOf : Subst → Subst → Type 0
InstanceOf θ τ = (ρ : Subst) × ((n : ℕ) → θ n ≡ apply ρ (τ n))

-- A unifier of which each unifier is an instance.
abbrev pub MostGeneral : Subst → Term → Term → Type 0
MostGeneral τ t u = Unifier τ t u × ((θ : Subst) → Unifier θ t u → InstanceOf θ τ)
