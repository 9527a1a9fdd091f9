-- Unification of terms whose variables are below a bound gives no other variable a value, and no value with another variable.
use Rattle.std.proofs.Common.{◌≡◌, ℕ, zero, suc, ◌<◌, ◌≤◌, Bool, true, false, cond, eqb, ltb, List, [], ◌∷◌, ap, ◌∙◌, arith, Option, Some, None}
use Rattle.std.proofs.lemmas.Bool.{ne_eqb}
use Rattle.terms.specs.Terms.{Sort, Tree, Term, Terms, var, node, nil, cons, apply, occurs, only, same_label}
use Rattle.terms.specs.Unifiers.{Subst}
use Rattle.terms.specs.Robinson.{Goal, both, each, apply_goals, Next, stop, go, bind, meet, meet_row, step, after, solve, unify}
use Rattle.machine.proofs.Below.{Below, below_apply}

-- The values τ go on from the values σ with variables below n alone.
pub record Within (n : ℕ) (σ τ : Subst) : Type 0 where
  pub beyond : (x : ℕ) → n ≤ x → σ x ≡ var x → τ x ≡ var x
  pub below : (x : ℕ) → Below n (σ x) → Below n (τ x)

within_refl : (n : ℕ) (σ : Subst) → Within n σ σ
within_refl n σ = record { beyond = λ x le e. e; below = λ x b. b }

within_trans : (n : ℕ) (σ τ ρ : Subst) → Within n σ τ → Within n τ ρ → Within n σ ρ
within_trans n σ τ ρ a b = record { beyond = λ x le e. b.beyond x le (a.beyond x le e); below = λ x p. b.below x (a.below x p) }

pub within_tree : {s : Sort} (n : ℕ) (σ τ : Subst) → Within n σ τ → (t : Tree s) → Below n (apply σ t) → Below n (apply τ t)
within_tree n σ τ w (var x) b = w.below x b
within_tree n σ τ w (node l ts) b = within_tree n σ τ w ts b
within_tree n σ τ w nil b = tt
within_tree n σ τ w (cons t ts) b = (within_tree n σ τ w t b.0, within_tree n σ τ w ts b.1)

abbrev GoalBelow : ℕ → Goal → Type 0
GoalBelow n (both t u) = Below n t × Below n u
GoalBelow n (each ts us) = Below n ts × Below n us

abbrev GoalsBelow : ℕ → List Goal → Type 0
GoalsBelow n [] = Unit {0}
GoalsBelow n (g ∷ gs) = GoalBelow n g × GoalsBelow n gs

abbrev pub Ends : ℕ → Subst → Option Subst → Type 0
Ends n σ None = Unit {0}
Ends n σ (Some τ) = Within n σ τ

abbrev NextBelow : ℕ → Subst → Next → Type 0
NextBelow n σ (stop o) = Ends n σ o
NextBelow n σ (go τ hs) = Within n σ τ × GoalsBelow n hs

only_below : (n x : ℕ) (t : Term) → Below n t → (y : ℕ) → y < n → Below n (only x t y)
only_below n x t b y lt = test (eqb y x)
  where
    test : (c : Bool) → Below n (cond c t (var y))
    test true = b
    test false = lt

goals_below : (n x : ℕ) (t : Term) → Below n t → (gs : List Goal) → GoalsBelow n gs → GoalsBelow n (apply_goals (only x t) gs)
goals_below n x t b [] g = tt
goals_below n x t b (both u v ∷ gs) g =
    ((below_apply n n (only x t) (only_below n x t b) u g.0.0, below_apply n n (only x t) (only_below n x t b) v g.0.1), goals_below n x t b gs g.1)
goals_below n x t b (each u v ∷ gs) g =
    ((below_apply n n (only x t) (only_below n x t b) u g.0.0, below_apply n n (only x t) (only_below n x t b) v g.0.1), goals_below n x t b gs g.1)

bind_below : (n x : ℕ) (t : Term) (σ : Subst) (gs : List Goal) → x < n → Below n t → GoalsBelow n gs → NextBelow n σ (bind x t σ gs)
bind_below n x t σ gs lt b g = (
  record {
    beyond = λ y le e. ap (apply (only x t)) e ∙ ap (λ (c : Bool). cond c t (var y)) (ne_eqb y x (λ p. omega arith));
    below = λ y p. below_apply n n (only x t) (only_below n x t b) (σ y) p;
  },
  goals_below n x t b gs g,
)

meet_below : (n : ℕ) (t u : Term) (σ : Subst) (gs : List Goal) → Below n t → Below n u → GoalsBelow n gs → NextBelow n σ (meet t u σ gs)
meet_below n (var x) (var y) σ gs a b g = test (eqb x y) (ltb x y)
  where
    test : (c d : Bool) → NextBelow n σ (cond c (go σ gs) (cond d (bind y (var x) σ gs) (bind x (var y) σ gs)))
    test true d = (within_refl n σ, g)
    test false true = bind_below n y (var x) σ gs b a g
    test false false = bind_below n x (var y) σ gs a b g
meet_below n (var x) (node l us) σ gs a b g = test (occurs x us)
  where
    test : (c : Bool) → NextBelow n σ (cond c (stop None) (bind x (node l us) σ gs))
    test true = tt
    test false = bind_below n x (node l us) σ gs a b g
meet_below n (node l ts) (var y) σ gs a b g = test (occurs y ts)
  where
    test : (c : Bool) → NextBelow n σ (cond c (stop None) (bind y (node l ts) σ gs))
    test true = tt
    test false = bind_below n y (node l ts) σ gs b a g
meet_below n (node l ts) (node m us) σ gs a b g = test (same_label l m)
  where
    test : (c : Bool) → NextBelow n σ (cond c (go σ (each ts us ∷ gs)) (stop None))
    test true = (within_refl n σ, ((a, b), g))
    test false = tt

row_below : (n : ℕ) (ts us : Terms) (σ : Subst) (gs : List Goal) → Below n ts → Below n us → GoalsBelow n gs → NextBelow n σ (meet_row ts us σ gs)
row_below n nil nil σ gs a b g = (within_refl n σ, g)
row_below n nil (cons u us) σ gs a b g = tt
row_below n (cons t ts) nil σ gs a b g = tt
row_below n (cons t ts) (cons u us) σ gs a b g = (within_refl n σ, ((a.0, b.0), ((a.1, b.1), g)))

step_below : (n : ℕ) (σ : Subst) (gs : List Goal) → GoalsBelow n gs → NextBelow n σ (step σ gs)
step_below n σ [] g = within_refl n σ
step_below n σ (both t u ∷ gs) g = meet_below n t u σ gs g.0.0 g.0.1 g.1
step_below n σ (each ts us ∷ gs) g = row_below n ts us σ gs g.0.0 g.0.1 g.1

ends_on : (n : ℕ) (σ τ : Subst) → Within n σ τ → (o : Option Subst) → Ends n τ o → Ends n σ o
ends_on n σ τ w None e = tt
ends_on n σ τ w (Some ρ) e = within_trans n σ τ ρ w e

solve_below : (n k : ℕ) (σ : Subst) (gs : List Goal) → GoalsBelow n gs → Ends n σ (solve k σ gs)
solve_below n zero σ gs g = tt
solve_below n (suc k) σ gs g = next (step σ gs) (step_below n σ gs g) (solve_below n k)
  where
    next : (x : Next) → NextBelow n σ x → ((τ : Subst) (hs : List Goal) → GoalsBelow n hs → Ends n τ (solve k τ hs)) → Ends n σ (after (solve k) x)
    next (stop o) p ih = p
    next (go τ hs) p ih = ends_on n σ τ p.0 (solve k τ hs) (ih τ hs p.1)

pub unify_below : (n : ℕ) (σ : Subst) (t u : Term) → Below n (apply σ t) → Below n (apply σ u) → Ends n σ (unify σ t u)
unify_below n σ t u a b = solve_below n _ σ (both (apply σ t) (apply σ u) ∷ []) ((a, b), tt)
