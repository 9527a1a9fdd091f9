-- Over values, unification does what it does on the terms as they stand under these values, and gives the values under the unifier found.
use Rattle.std.proofs.Common.{◌≡◌, ℕ, zero, suc, ◌+◌, Bool, true, false, cond, eqb, ltb, List, [], ◌∷◌, sym, refl, ap, ◌∙◌, Option, None}
use mathlib.Core.Path.{fun_ext}
use Rattle.std.specs.Option.{option_map}
use Rattle.terms.specs.Terms.{Term, Terms, var, node, nil, cons, apply, occurs, size, only, same_label}
use Rattle.terms.specs.Unifiers.{Subst, compose}
use Rattle.terms.specs.Robinson.{Goal, both, each, apply_goals, Next, stop, go, bind, meet, meet_row, step, after, solve, enough, unify, variables}
use Rattle.terms.proofs.TermLaws.{apply_var, apply_apply}

-- The values of σ under those of an answer, and under those of a step.
abbrev pub following : Subst → Option Subst → Option Subst
following σ = option_map (compose σ)

abbrev later : Subst → Next → Next
later σ (stop o) = stop (following σ o)
later σ (go τ gs) = go (compose σ τ) gs

bind_later : (σ τ : Subst) (x : ℕ) (t : Term) (gs : List Goal) → bind x t (compose σ τ) gs ≡ later σ (bind x t τ gs)
bind_later σ τ x t gs = ap (λ (ρ : Subst). go ρ (apply_goals (only x t) gs)) (fun_ext (λ n. apply_apply τ (only x t) (σ n)))

meet_later : (t u : Term) (σ τ : Subst) (gs : List Goal) → meet t u (compose σ τ) gs ≡ later σ (meet t u τ gs)
meet_later (var x) (var y) σ τ gs = test (eqb x y) (ltb x y)
  where
    test : (b c : Bool) → cond b (go (compose σ τ) gs) (cond c (bind y (var x) (compose σ τ) gs) (bind x (var y) (compose σ τ) gs))
        ≡ later σ (cond b (go τ gs) (cond c (bind y (var x) τ gs) (bind x (var y) τ gs)))
    test true c = refl
    test false true = bind_later σ τ y (var x) gs
    test false false = bind_later σ τ x (var y) gs
meet_later (var x) (node l us) σ τ gs = test (occurs x us)
  where
    test : (b : Bool) → cond b (stop None) (bind x (node l us) (compose σ τ) gs) ≡ later σ (cond b (stop None) (bind x (node l us) τ gs))
    test true = refl
    test false = bind_later σ τ x (node l us) gs
meet_later (node l ts) (var y) σ τ gs = test (occurs y ts)
  where
    test : (b : Bool) → cond b (stop None) (bind y (node l ts) (compose σ τ) gs) ≡ later σ (cond b (stop None) (bind y (node l ts) τ gs))
    test true = refl
    test false = bind_later σ τ y (node l ts) gs
meet_later (node l ts) (node m us) σ τ gs = test (same_label l m)
  where
    test : (b : Bool) → cond b (go (compose σ τ) (each ts us ∷ gs)) (stop None) ≡ later σ (cond b (go τ (each ts us ∷ gs)) (stop None))
    test true = refl
    test false = refl

row_later : (ts us : Terms) (σ τ : Subst) (gs : List Goal) → meet_row ts us (compose σ τ) gs ≡ later σ (meet_row ts us τ gs)
row_later nil nil σ τ gs = refl
row_later nil (cons u us) σ τ gs = refl
row_later (cons t ts) nil σ τ gs = refl
row_later (cons t ts) (cons u us) σ τ gs = refl

step_later : (σ τ : Subst) (gs : List Goal) → step (compose σ τ) gs ≡ later σ (step τ gs)
step_later σ τ [] = refl
step_later σ τ (both t u ∷ gs) = meet_later t u σ τ gs
step_later σ τ (each ts us ∷ gs) = row_later ts us σ τ gs

pub solve_compose : (k : ℕ) (σ τ : Subst) (gs : List Goal) → solve k (compose σ τ) gs ≡ following σ (solve k τ gs)
solve_compose zero σ τ gs = refl
solve_compose (suc k) σ τ gs = ap (after (solve k)) (step_later σ τ gs) ∙ next (step τ gs) (solve_compose k σ)
  where
    next : (n : Next) → ((ρ : Subst) (hs : List Goal) → solve k (compose σ ρ) hs ≡ following σ (solve k ρ hs)) → after (solve k) (later σ n) ≡ following σ (after (solve k) n)
    next (stop o) ih = refl
    next (go ρ hs) ih = ih ρ hs

pub unify_values : (σ : Subst) (t u : Term) → unify σ t u ≡ following σ (unify var (apply σ t) (apply σ u))
unify_values σ t u = ap (λ (ρ : Subst). solve fuel ρ (both a b ∷ [])) (fun_ext (λ n. sym (apply_var (σ n)))) ∙ solve_compose fuel σ var (both a b ∷ []) ∙ ap (following σ) again
  where
    a : Term
    a = apply σ t

    b : Term
    b = apply σ u

    fuel : ℕ
    fuel = enough (variables a + variables b) (suc (size a + size b))

    from : Term → Term → Option Subst
    from v w = solve (enough (variables v + variables w) (suc (size v + size w))) var (both v w ∷ [])

    again : from a b ≡ from (apply var a) (apply var b)
    again = rw (apply_var a, apply_var b)
