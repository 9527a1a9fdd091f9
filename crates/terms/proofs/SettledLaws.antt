-- Each step of unification leaves its values idempotent, and its goals free of variables that have a value.
use Rattle.std.proofs.Common.{◌≡◌, ℕ, Bool, true, false, cond, eqb, ltb, List, [], ◌∷◌, sym, refl, ap, ◌∙◌, ap₂, Some, None}
use Rattle.terms.specs.Terms.{Term, Terms, var, node, nil, cons, apply, occurs, only, same_label}
use Rattle.terms.specs.Unifiers.{Subst, compose, Idempotent}
use Rattle.terms.specs.Robinson.{Goal, both, each, apply_goals, Next, stop, go, bind, meet, meet_row, step}
use Rattle.terms.proofs.TermLaws.{apply_apply, only_self, only_absent, ne_occurs, absorbs}

-- The values and the goals speak only of variables without a value.
abbrev pub Settled : Subst → List Goal → Type 0
Settled σ gs = Idempotent σ × (apply_goals σ gs ≡ gs)

abbrev pub SettledAt : Next → Type 0
SettledAt (stop None) = Unit {0}
SettledAt (stop (Some τ)) = Idempotent τ
SettledAt (go τ hs) = Settled τ hs

pub settled_left : (σ : Subst) (t u : Term) (gs : List Goal) → Settled σ (both t u ∷ gs) → apply σ t ≡ t
settled_left σ t u gs s = cc s.1

pub settled_right : (σ : Subst) (t u : Term) (gs : List Goal) → Settled σ (both t u ∷ gs) → apply σ u ≡ u
settled_right σ t u gs s = cc s.1

settled_rest : (σ : Subst) (g : Goal) (gs : List Goal) → Settled σ (g ∷ gs) → apply_goals σ gs ≡ gs
settled_rest σ g gs s = cc s.1

apply_goals_only : (θ : Subst) (x : ℕ) (t : Term) → θ x ≡ apply θ t → (gs : List Goal) → apply_goals θ (apply_goals (only x t) gs) ≡ apply_goals θ gs
apply_goals_only θ x t e [] = refl
apply_goals_only θ x t e (both a b ∷ gs) = ap₂ ◌∷◌ (ap₂ both (absorbs x t θ e a) (absorbs x t θ e b)) (apply_goals_only θ x t e gs)
apply_goals_only θ x t e (each a b ∷ gs) = ap₂ ◌∷◌ (ap₂ each (absorbs x t θ e a) (absorbs x t θ e b)) (apply_goals_only θ x t e gs)

apply_goals_compose : (σ τ : Subst) (gs : List Goal) → apply_goals (compose σ τ) gs ≡ apply_goals τ (apply_goals σ gs)
apply_goals_compose σ τ [] = refl
apply_goals_compose σ τ (both a b ∷ gs) = ap₂ ◌∷◌ (ap₂ both (sym (apply_apply σ τ a)) (sym (apply_apply σ τ b))) (apply_goals_compose σ τ gs)
apply_goals_compose σ τ (each a b ∷ gs) = ap₂ ◌∷◌ (ap₂ each (sym (apply_apply σ τ a)) (sym (apply_apply σ τ b))) (apply_goals_compose σ τ gs)

bind_settled : (σ : Subst) (x : ℕ) (t : Term) (gs : List Goal) → Idempotent σ → apply_goals σ gs ≡ gs → σ x ≡ var x → apply σ t ≡ t → occurs x t ≡ false
    → SettledAt (bind x t σ gs)
bind_settled σ x t gs a g free kept absent = (
  λ n. absorbs x t τ same (σ n) ∙ sym (apply_apply σ (only x t) (σ n)) ∙ ap (apply (only x t)) (a n),
  apply_goals_only τ x t same gs ∙ apply_goals_compose σ (only x t) gs ∙ ap (apply_goals (only x t)) g,
)
  where
    τ : Subst
    τ = compose σ (only x t)

    same : τ x ≡ apply τ t
    same = ap (apply (only x t)) free ∙ only_self x t ∙ sym (sym (apply_apply σ (only x t) t) ∙ ap (apply (only x t)) kept ∙ only_absent x t t absent)

bind_left : (σ : Subst) (x : ℕ) (u : Term) (gs : List Goal) → Settled σ (both (var x) u ∷ gs) → occurs x u ≡ false → SettledAt (bind x u σ gs)
bind_left σ x u gs s = bind_settled σ x u gs s.0 (settled_rest σ (both (var x) u) gs s) (settled_left σ (var x) u gs s) (settled_right σ (var x) u gs s)

bind_right : (σ : Subst) (y : ℕ) (t : Term) (gs : List Goal) → Settled σ (both t (var y) ∷ gs) → occurs y t ≡ false → SettledAt (bind y t σ gs)
bind_right σ y t gs s = bind_settled σ y t gs s.0 (settled_rest σ (both t (var y)) gs s) (settled_right σ t (var y) gs s) (settled_left σ t (var y) gs s)

meet_settled : (t u : Term) (σ : Subst) (gs : List Goal) → Settled σ (both t u ∷ gs) → SettledAt (meet t u σ gs)
meet_settled (var x) (var y) σ gs s = test (eqb x y) (ltb x y) refl
  where
    test : (b c : Bool) → eqb x y ≡ b → SettledAt (cond b (go σ gs) (cond c (bind y (var x) σ gs) (bind x (var y) σ gs)))
    test true c e = (s.0, settled_rest σ (both (var x) (var y)) gs s)
    test false true e = bind_right σ y (var x) gs s e
    test false false e = bind_left σ x (var y) gs s (ne_occurs x y e)
meet_settled (var x) (node l us) σ gs s = test (occurs x us) refl
  where
    test : (b : Bool) → occurs x us ≡ b → SettledAt (cond b (stop None) (bind x (node l us) σ gs))
    test true e = tt
    test false e = bind_left σ x (node l us) gs s e
meet_settled (node l ts) (var y) σ gs s = test (occurs y ts) refl
  where
    test : (b : Bool) → occurs y ts ≡ b → SettledAt (cond b (stop None) (bind y (node l ts) σ gs))
    test true e = tt
    test false e = bind_right σ y (node l ts) gs s e
meet_settled (node l ts) (node m us) σ gs s = test (same_label l m)
  where
    inside : apply_goals σ (each ts us ∷ gs) ≡ each ts us ∷ gs
    inside = cc s.1

    test : (b : Bool) → SettledAt (cond b (go σ (each ts us ∷ gs)) (stop None))
    test true = (s.0, inside)
    test false = tt

row_settled : (ts us : Terms) (σ : Subst) (gs : List Goal) → Settled σ (each ts us ∷ gs) → SettledAt (meet_row ts us σ gs)
row_settled nil nil σ gs s = (s.0, settled_rest σ (each nil nil) gs s)
row_settled nil (cons u us) σ gs s = tt
row_settled (cons t ts) nil σ gs s = tt
row_settled (cons t ts) (cons u us) σ gs s = (s.0, cc s.1)

pub step_settled : (σ : Subst) (gs : List Goal) → Settled σ gs → SettledAt (step σ gs)
step_settled σ [] s = s.0
step_settled σ (both t u ∷ gs) s = meet_settled t u σ gs s
step_settled σ (each ts us ∷ gs) s = row_settled ts us σ gs s
