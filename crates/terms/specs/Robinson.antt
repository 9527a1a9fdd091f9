-- Robinson's unification: goals are met from left to right, with the occurs check.
-- Of two variables the higher is bound to the lower.
use Rattle.std.specs.Prelude.{ℕ, zero, suc, ◌+◌, ◌*◌, cond, List, [], ◌∷◌, ◌==◌, nat_lt, Option, Some, None}
use Rattle.terms.specs.Terms.{Sort, Tree, Term, Terms, var, node, nil, cons, apply, occurs, size, only, same_label}
use Rattle.terms.specs.Unifiers.{Subst, compose}

-- What is still to be made equal: two terms, or two rows of arguments.
pub data Goal : Type 0 where
  both : Term → Term → Goal
  each : Terms → Terms → Goal

abbrev pub apply_goal : Subst → Goal → Goal
apply_goal σ (both t u) = both (apply σ t) (apply σ u)
apply_goal σ (each ts us) = each (apply σ ts) (apply σ us)

abbrev pub apply_goals : Subst → List Goal → List Goal
apply_goals σ [] = []
apply_goals σ (g ∷ gs) = apply_goal σ g ∷ apply_goals σ gs

-- A step ends the work with its answer, or leaves values and goals.
pub data Next : Type 0 where
  stop : Option Subst → Next
  go : Subst → List Goal → Next

-- Variable x, which has no value, gets the value t.
abbrev pub bind : ℕ → Term → Subst → List Goal → Next
bind x t σ gs = go (compose σ (only x t)) (apply_goals (only x t) gs)

abbrev pub meet : Term → Term → Subst → List Goal → Next
meet (var x) (var y) σ gs = cond (x == y) (go σ gs) (cond (nat_lt x y) (bind y (var x) σ gs) (bind x (var y) σ gs))
meet (var x) (node l us) σ gs = cond (occurs x us) (stop None) (bind x (node l us) σ gs)
meet (node l ts) (var y) σ gs = cond (occurs y ts) (stop None) (bind y (node l ts) σ gs)
meet (node l ts) (node m us) σ gs = cond (same_label l m) (go σ (each ts us ∷ gs)) (stop None)

abbrev pub meet_row : Terms → Terms → Subst → List Goal → Next
meet_row nil nil σ gs = go σ gs
meet_row nil (cons u us) σ gs = stop None
meet_row (cons t ts) nil σ gs = stop None
meet_row (cons t ts) (cons u us) σ gs = go σ (both t u ∷ each ts us ∷ gs)

abbrev pub step : Subst → List Goal → Next
step σ [] = stop (Some σ)
step σ (both t u ∷ gs) = meet t u σ gs
step σ (each ts us ∷ gs) = meet_row ts us σ gs

abbrev pub after : (Subst → List Goal → Option Subst) → Next → Option Subst
after r (stop o) = o
after r (go σ gs) = r σ gs

-- At most so many steps; the answer none where they do not suffice.
abbrev pub solve : ℕ → Subst → List Goal → Option Subst
solve zero σ gs = None
solve (suc k) σ gs = after (solve k) (step σ gs)

-- How often variables occur.
abbrev pub variables : {s : Sort} → Tree s → ℕ
variables (var n) = 1
variables (node l ts) = variables ts
variables nil = 0
variables (cons t ts) = variables t + variables ts

-- So many steps suffice for goals of size k with v variables: a step makes the goals smaller,
-- or takes a variable out of them and at most squares their size.
abbrev pub enough : ℕ → ℕ → ℕ
enough zero k = suc k
enough (suc v) k = suc (k + enough v (k * k))

-- The values σ, extended so that the two terms are equal under them.
abbrev pub unify : Subst → Term → Term → Option Subst
unify σ t u = let a = apply σ t in let b = apply σ u in solve (enough (variables a + variables b) (suc (size a + size b))) σ (both a b ∷ [])
