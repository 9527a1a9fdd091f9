-- What is proved of terms: statements, each of which stands in the contract of a public function.
use Rattle.std.specs.Prelude.{◌≡◌, ℕ, true, ◌↔◌, Option, Some, None}
use Rattle.terms.specs.Terms.{Sort, Tree, Term, Terms, var, apply, pick, same_tree}
use Rattle.terms.specs.Renamings.{Alike}
use Rattle.terms.specs.Unifiers.{Subst, Absorbs, Idempotent, Unifier, MostGeneral}
use Rattle.terms.specs.Robinson.{unify}

-- No substitution that extends the values σ unifies the two terms;
-- or the new values are idempotent, and those that extend σ and unify are exactly those that extend the new values.
abbrev pub Unified : Subst → Term → Term → Option Subst → Type 0
Unified σ t u None = (θ : Subst) → Absorbs θ σ → Unifier θ t u → ⊥
Unified σ t u (Some τ) = Idempotent τ × ((θ : Subst) → (Absorbs θ σ × Unifier θ t u) ↔ Absorbs θ τ)

abbrev pub RobinsonExact : Type 0
RobinsonExact = (σ : Subst) (t u : Term) → Idempotent σ → Unified σ t u (unify σ t u)

-- The two terms have no unifier; or the answer is an idempotent most general one.
abbrev pub Settles : Term → Term → Option Subst → Type 0
Settles t u None = (θ : Subst) → Unifier θ t u → ⊥
Settles t u (Some τ) = MostGeneral τ t u × Idempotent τ

-- The two terms, as they stand under the values σ, have no unifier;
-- or the new values are the values of σ under an idempotent most general one.
abbrev pub Extends : Subst → Term → Term → Option Subst → Type 0
Extends σ t u None = (θ : Subst) → Unifier θ (apply σ t) (apply σ u) → ⊥
Extends σ t u (Some τ) = (μ : Subst) × MostGeneral μ (apply σ t) (apply σ u) × Idempotent μ × ((n : ℕ) → τ n ≡ apply μ (σ n))

abbrev pub RobinsonMostGeneral : Type 0
RobinsonMostGeneral = ((t u : Term) → Settles t u (unify var t u)) × ((σ : Subst) (t u : Term) → Extends σ t u (unify σ t u))

-- Two rows under the values that unification gave them: it succeeded on both, and they are alike, or it failed on both.
abbrev pub BothUnify : Terms → Terms → Option Subst → Option Subst → Type 0
BothUnify ts us None None = Unit {0}
BothUnify ts us None (Some τ) = ⊥
BothUnify ts us (Some σ) None = ⊥
BothUnify ts us (Some σ) (Some τ) = Alike (apply σ ts) (apply τ us)

-- Rows that are alike stay alike when the same two places are unified in both.
abbrev pub AlikeUnify : Type 0
AlikeUnify = (σ τ : Subst) → Idempotent σ → Idempotent τ → (ts us : Terms) → Alike (apply σ ts) (apply τ us)
    → (i j : ℕ) → BothUnify ts us (unify σ (pick ts i) (pick ts j)) (unify τ (pick us i) (pick us j))

abbrev pub SameDecides : Type 0
SameDecides = (s : Sort) (t u : Tree s) → (same_tree t u ≡ true) ↔ (t ≡ u)
