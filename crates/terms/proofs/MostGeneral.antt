-- Unification finds an idempotent most general unifier, or there is no unifier; over values it finds these under a most general unifier.
use Rattle.std.proofs.Common.{sym, refl, subst, Option, Some, None}
use Rattle.terms.specs.Terms.{Term, var, apply}
use Rattle.terms.specs.Unifiers.{Subst}
use Rattle.terms.specs.Robinson.{unify}
use Rattle.terms.specs.Laws.{Unified, Settles, Extends, RobinsonMostGeneral}
use Rattle.terms.proofs.Robinson.{unify_exact}
use Rattle.terms.proofs.UnifyValues.{following, unify_values}

unified_settles : (t u : Term) (r : Option Subst) → Unified var t u r → Settles t u r
unified_settles t u None p = λ θ e. p θ (λ n. refl) e
unified_settles t u (Some τ) p = ((((p.1 τ).1 p.0).1, λ θ e. (θ, λ n. sym ((p.1 θ).0 ((λ m. refl), e) n))), p.0)

pub unify_settles : (t u : Term) → Settles t u (unify var t u)
unify_settles t u = unified_settles t u (unify var t u) (unify_exact var t u (λ n. refl))

pub unify_extends : (σ : Subst) (t u : Term) → Extends σ t u (unify σ t u)
unify_extends σ t u = subst (Extends σ t u) (sym (unify_values σ t u)) (under (unify var (apply σ t) (apply σ u)) (unify_settles (apply σ t) (apply σ u)))
  where
    under : (r : Option Subst) → Settles (apply σ t) (apply σ u) r → Extends σ t u (following σ r)
    under None p = p
    under (Some μ) p = (μ, p.0, p.1, λ n. refl)

pub unify_most_general : RobinsonMostGeneral
unify_most_general = (unify_settles, unify_extends)
