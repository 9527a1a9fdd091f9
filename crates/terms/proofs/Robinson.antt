-- Unification is exact: it finds values that are extended by just the unifiers over the given values, or there are no such unifiers.
use Rattle.std.proofs.Common.{◌≡◌, ℕ, zero, suc, ◌+◌, ◌≤◌, ◌↔◌, List, [], ◌∷◌, ◌++◌, length, sym, refl, ◌∙◌, ap₂, arith, length-append, Option, Some, None}
use Rattle.terms.specs.Terms.{Term, apply, size}
use Rattle.terms.specs.Unifiers.{Subst, Absorbs, Idempotent}
use Rattle.terms.specs.Robinson.{Goal, both, Next, stop, go, step, after, solve, enough, unify, variables}
use Rattle.terms.specs.Laws.{Unified, RobinsonExact}
use Rattle.terms.proofs.TermLaws.{absorbs_tree}
use Rattle.terms.proofs.SettledLaws.{Settled, SettledAt, step_settled}
use Rattle.terms.proofs.UnifyLaws.{Fits, Exact, step_exact}
use Rattle.terms.proofs.Names.{names, names_length}
use Rattle.terms.proofs.HaltLaws.{Halts, HaltsAt, names_of, halts_goals}

-- What the steps must have found when they end.
abbrev pub Solved : Subst → List Goal → Option Subst → Type 0
Solved σ gs None = (θ : Subst) → Fits θ σ gs → ⊥
Solved σ gs (Some τ) = Idempotent τ × ((θ : Subst) → Fits θ σ gs ↔ Absorbs θ τ)

pub solve_exact : (k : ℕ) (σ : Subst) (gs : List Goal) → Settled σ gs → Halts k σ gs → Solved σ gs (solve k σ gs)
solve_exact zero σ gs s h = absurd h
solve_exact (suc k) σ gs s h = next (step σ gs) (step_exact σ gs s) (step_settled σ gs s) h (solve_exact k)
  where
    carry : (τ : Subst) (hs : List Goal) → ((θ : Subst) → Fits θ σ gs ↔ Fits θ τ hs) → (r : Option Subst) → Solved τ hs r → Solved σ gs r
    carry τ hs e None p = λ θ f. p θ ((e θ).0 f)
    carry τ hs e (Some ρ) p = (p.0, λ θ. (λ f. (p.1 θ).0 ((e θ).0 f), λ f. (e θ).1 ((p.1 θ).1 f)))

    next : (n : Next) → Exact σ gs n → SettledAt n → HaltsAt (Halts k) n
        → ((τ : Subst) (hs : List Goal) → Settled τ hs → Halts k τ hs → Solved τ hs (solve k τ hs)) → Solved σ gs (after (solve k) n)
    next (stop None) e c d ih = e
    next (stop (Some τ)) e c d ih = (c, e)
    next (go τ hs) e c d ih = carry τ hs e (solve k τ hs) (ih τ hs c d)

pub unify_exact : RobinsonExact
unify_exact σ t u i = give (unify σ t u) (solve_exact (enough v k) σ gs settled (halts_goals v k σ gs short (omega arith)))
  where
    a : Term
    a = apply σ t

    b : Term
    b = apply σ u

    gs : List Goal
    gs = both a b ∷ []

    v : ℕ
    v = variables a + variables b

    k : ℕ
    k = suc (size a + size b)

    short : length (names_of gs) ≤ v
    short = let p = length-append (names a ++ names b) [] in let q = length-append (names a) (names b) in let r = names_length a in let s = names_length b in omega arith

    settled : Settled σ gs
    settled = (i, ap₂ ◌∷◌ (ap₂ both (absorbs_tree σ σ i t) (absorbs_tree σ σ i u)) refl)

    turn : (θ : Subst) → Absorbs θ σ → (apply θ t ≡ apply θ u) ↔ (apply θ a ≡ apply θ b)
    turn θ c = (λ e. absorbs_tree θ σ c t ∙ e ∙ sym (absorbs_tree θ σ c u), λ e. sym (absorbs_tree θ σ c t) ∙ e ∙ absorbs_tree θ σ c u)

    give : (r : Option Subst) → Solved σ gs r → Unified σ t u r
    give None p = λ θ c e. p θ (c, ((turn θ c).0 e, tt))
    give (Some τ) p = (p.0, λ θ. (λ f. (p.1 θ).0 (f.0, ((turn θ f.0).0 f.1, tt)), λ f. let g = (p.1 θ).1 f in (g.0, (turn θ g.0).1 g.1.0)))
