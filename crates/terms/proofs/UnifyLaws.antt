-- Each step of unification keeps exactly the substitutions that fit: those that extend the values and solve the goals.
use Rattle.std.proofs.Common.{◌≡◌, ℕ, Bool, true, false, cond, eqb, ltb, ◌↔◌, List, [], ◌∷◌, sym, refl, ap, ◌∙◌, ap₂, Some, None}
use Rattle.std.proofs.lemmas.Bool.{true≢false, eqb-true}
use Rattle.terms.specs.Terms.{Sort, Tree, Term, Terms, var, node, nil, cons, apply, occurs, only, same_label}
use Rattle.terms.specs.Unifiers.{Subst, compose, Absorbs}
use Rattle.terms.specs.Robinson.{Goal, both, each, apply_goals, Next, stop, go, bind, meet, meet_row, step}
use Rattle.terms.proofs.TermLaws.{absorbs, only_self, no_loop}
use Rattle.terms.proofs.SameLaws.{same_label_true, same_label_false}
use Rattle.terms.proofs.SettledLaws.{Settled, settled_left, settled_right}

-- θ makes the two sides of a goal equal.
abbrev pub Equal : Subst → Goal → Type 0
Equal θ (both t u) = apply θ t ≡ apply θ u
Equal θ (each ts us) = apply θ ts ≡ apply θ us

abbrev pub Solves : Subst → List Goal → Type 0
Solves θ [] = Unit {0}
Solves θ (g ∷ gs) = Equal θ g × Solves θ gs

abbrev pub Fits : Subst → Subst → List Goal → Type 0
Fits θ σ gs = Absorbs θ σ × Solves θ gs

-- What fits before a step is what fits after it.
abbrev pub Exact : Subst → List Goal → Next → Type 0
Exact σ gs (stop None) = (θ : Subst) → Fits θ σ gs → ⊥
Exact σ gs (stop (Some τ)) = (θ : Subst) → Fits θ σ gs ↔ Absorbs θ τ
Exact σ gs (go τ hs) = (θ : Subst) → Fits θ σ gs ↔ Fits θ τ hs

-- Binding x to t, for substitutions that make the same of x and t.
module _ (θ : Subst) (x : ℕ) (t : Term) (e : θ x ≡ apply θ t) where
  equal_only : {s : Sort} (a b : Tree s) → (apply θ a ≡ apply θ b) ↔ (apply θ (apply (only x t) a) ≡ apply θ (apply (only x t) b))
  equal_only a b = (λ p. absorbs x t θ e a ∙ p ∙ sym (absorbs x t θ e b), λ p. sym (absorbs x t θ e a) ∙ p ∙ absorbs x t θ e b)

  solves_only : (gs : List Goal) → Solves θ gs ↔ Solves θ (apply_goals (only x t) gs)
  solves_only [] = (λ s. s, λ s. s)
  solves_only (both a b ∷ gs) = let h = equal_only a b in let r = solves_only gs in (λ s. (h.0 s.0, r.0 s.1), λ s. (h.1 s.0, r.1 s.1))
  solves_only (each a b ∷ gs) = let h = equal_only a b in let r = solves_only gs in (λ s. (h.0 s.0, r.0 s.1), λ s. (h.1 s.0, r.1 s.1))

  absorbs_bind : (σ : Subst) → Absorbs θ σ ↔ Absorbs θ (compose σ (only x t))
  absorbs_bind σ = (λ a n. absorbs x t θ e (σ n) ∙ a n, λ a n. sym (absorbs x t θ e (σ n)) ∙ a n)

-- A substitution that extends the bound values makes the same of x and t.
bind_back : (θ σ : Subst) (x : ℕ) (t : Term) → σ x ≡ var x → Absorbs θ (compose σ (only x t)) → θ x ≡ apply θ t
bind_back θ σ x t free a = sym (a x) ∙ ap (λ (u : Term). apply θ (apply (only x t) u)) free ∙ ap (apply θ) (only_self x t)

-- Binding x to t is exact for the goal that makes x and t equal, either way round.
bind_exact : (σ : Subst) (x : ℕ) (t : Term) (gs : List Goal) → σ x ≡ var x → Exact σ (both (var x) t ∷ gs) (bind x t σ gs)
bind_exact σ x t gs free = λ θ. (
  λ f. ((absorbs_bind θ x t f.1.0 σ).0 f.0, (solves_only θ x t f.1.0 gs).0 f.1.1),
  λ f. let e = bind_back θ σ x t free f.0 in ((absorbs_bind θ x t e σ).1 f.0, (e, (solves_only θ x t e gs).1 f.1)),
)

bind_turned : (σ : Subst) (x : ℕ) (t : Term) (gs : List Goal) → σ x ≡ var x → Exact σ (both t (var x) ∷ gs) (bind x t σ gs)
bind_turned σ x t gs free = λ θ. let b = bind_exact σ x t gs free θ in
    (λ f. b.0 (f.0, (sym f.1.0, f.1.1)), λ f. let r = b.1 f in (r.0, (sym r.1.0, r.1.1)))

meet_exact : (t u : Term) (σ : Subst) (gs : List Goal) → Settled σ (both t u ∷ gs) → Exact σ (both t u ∷ gs) (meet t u σ gs)
meet_exact (var x) (var y) σ gs s = test (eqb x y) refl
  where
    order : (b : Bool) → Exact σ (both (var x) (var y) ∷ gs) (cond b (bind y (var x) σ gs) (bind x (var y) σ gs))
    order true = bind_turned σ y (var x) gs (settled_right σ (var x) (var y) gs s)
    order false = bind_exact σ x (var y) gs (settled_left σ (var x) (var y) gs s)

    test : (b : Bool) → eqb x y ≡ b → Exact σ (both (var x) (var y) ∷ gs) (cond b (go σ gs) (cond (ltb x y) (bind y (var x) σ gs) (bind x (var y) σ gs)))
    test true e = λ θ. (λ f. (f.0, f.1.1), λ f. (f.0, (ap θ (eqb-true x y e), f.1)))
    test false e = order (ltb x y)
meet_exact (var x) (node l us) σ gs s = test (occurs x us) refl
  where
    test : (b : Bool) → occurs x us ≡ b → Exact σ (both (var x) (node l us) ∷ gs) (cond b (stop None) (bind x (node l us) σ gs))
    test true e = λ θ f. no_loop x θ l us e f.1.0
    test false e = bind_exact σ x (node l us) gs (settled_left σ (var x) (node l us) gs s)
meet_exact (node l ts) (var y) σ gs s = test (occurs y ts) refl
  where
    test : (b : Bool) → occurs y ts ≡ b → Exact σ (both (node l ts) (var y) ∷ gs) (cond b (stop None) (bind y (node l ts) σ gs))
    test true e = λ θ f. no_loop y θ l ts e (sym f.1.0)
    test false e = bind_turned σ y (node l ts) gs (settled_right σ (node l ts) (var y) gs s)
meet_exact (node l ts) (node m us) σ gs s = test (same_label l m) refl
  where
    test : (b : Bool) → same_label l m ≡ b → Exact σ (both (node l ts) (node m us) ∷ gs) (cond b (go σ (each ts us ∷ gs)) (stop None))
    test true e = λ θ. (λ f. (f.0, (cc f.1.0, f.1.1)), λ f. (f.0, (ap₂ node (same_label_true l m e) f.1.0, f.1.1)))
    test false e = λ θ f. same_label_false l m e (cc f.1.0)

row_exact : (ts us : Terms) (σ : Subst) (gs : List Goal) → Exact σ (each ts us ∷ gs) (meet_row ts us σ gs)
row_exact nil nil σ gs = λ θ. (λ f. (f.0, f.1.1), λ f. (f.0, (refl, f.1)))
row_exact nil (cons u us) σ gs = λ θ f. true≢false (cc f.1.0)
row_exact (cons t ts) nil σ gs = λ θ f. true≢false (cc f.1.0)
row_exact (cons t ts) (cons u us) σ gs = λ θ. (λ f. (f.0, (cc f.1.0, (cc f.1.0, f.1.1))), λ f. (f.0, (ap₂ cons f.1.0 f.1.1.0, f.1.1.1)))

pub step_exact : (σ : Subst) (gs : List Goal) → Settled σ gs → Exact σ gs (step σ gs)
step_exact σ [] s = λ θ. (λ f. f.0, λ f. (f, tt))
step_exact σ (both t u ∷ gs) s = meet_exact t u σ gs s
step_exact σ (each ts us ∷ gs) s = row_exact ts us σ gs
