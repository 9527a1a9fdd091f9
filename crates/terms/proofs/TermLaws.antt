-- What substitutions make of a tree: the identity, two in turn, equal ones, the change of one variable; and why the occurs check is right.
use Rattle.std.proofs.Common.{◌≡◌, ℕ, suc, ◌+◌, ◌≤◌, Bool, true, false, cond, ◌||◌, eqb, sym, refl, ap, ◌∙◌, ap₂, arith}
use Rattle.std.proofs.lemmas.Bool.{both_ways, eqb-true, eqb-false, eq-eqb, ne_eqb, or_parts}
use Rattle.terms.specs.Terms.{Label, Sort, Tree, Term, Terms, var, node, nil, cons, apply, occurs, size, only}
use Rattle.terms.specs.Unifiers.{Subst, compose, Absorbs}

pub apply_var : {s : Sort} (t : Tree s) → apply var t ≡ t
apply_var (var n) = refl
apply_var (node l ts) = ap (node l) (apply_var ts)
apply_var nil = refl
apply_var (cons t ts) = ap₂ cons (apply_var t) (apply_var ts)

pub apply_apply : {s : Sort} (σ τ : Subst) (t : Tree s) → apply τ (apply σ t) ≡ apply (compose σ τ) t
apply_apply σ τ (var n) = refl
apply_apply σ τ (node l ts) = ap (node l) (apply_apply σ τ ts)
apply_apply σ τ nil = refl
apply_apply σ τ (cons t ts) = ap₂ cons (apply_apply σ τ t) (apply_apply σ τ ts)

pub apply_same : {s : Sort} (σ τ : Subst) → ((n : ℕ) → σ n ≡ τ n) → (t : Tree s) → apply σ t ≡ apply τ t
apply_same σ τ e (var n) = e n
apply_same σ τ e (node l ts) = ap (node l) (apply_same σ τ e ts)
apply_same σ τ e nil = refl
apply_same σ τ e (cons t ts) = ap₂ cons (apply_same σ τ e t) (apply_same σ τ e ts)

-- What a substitution absorbs, it absorbs in every tree.
pub absorbs_tree : {s : Sort} (θ σ : Subst) → Absorbs θ σ → (t : Tree s) → apply θ (apply σ t) ≡ apply θ t
absorbs_tree θ σ a t = apply_apply σ θ t ∙ apply_same (compose σ θ) θ a t

pub ne_occurs : (x y : ℕ) → eqb x y ≡ false → occurs x (var y) ≡ false
ne_occurs x y e = ne_eqb y x (λ p. eqb-false x y e (sym p))

pub only_self : (x : ℕ) (t : Term) → only x t x ≡ t
only_self x t = rw (eq-eqb x x refl)

-- The change of a variable that does not occur changes nothing.
pub only_absent : {s : Sort} (x : ℕ) (u : Term) (t : Tree s) → occurs x t ≡ false → apply (only x u) t ≡ t
only_absent x u (var n) h = ap (λ (b : Bool). cond b u (var n)) h
only_absent x u (node l ts) h = ap (node l) (only_absent x u ts h)
only_absent x u nil h = refl
only_absent x u (cons t ts) h = let p = or_parts (occurs x t) (occurs x ts) h in ap₂ cons (only_absent x u t p.0) (only_absent x u ts p.1)

-- A substitution that makes the same of x and t absorbs the change of x to t.
pub absorbs : {s : Sort} (x : ℕ) (t : Term) (θ : Subst) → θ x ≡ apply θ t → (u : Tree s) → apply θ (apply (only x t) u) ≡ apply θ u
absorbs x t θ e (var n) = test (eqb n x) refl
  where
    test : (b : Bool) → eqb n x ≡ b → apply θ (cond b t (var n)) ≡ θ n
    test true h = sym e ∙ ap θ (sym (eqb-true n x h))
    test false h = refl
absorbs x t θ e (node l ts) = ap (node l) (absorbs x t θ e ts)
absorbs x t θ e nil = refl
absorbs x t θ e (cons u us) = ap₂ cons (absorbs x t θ e u) (absorbs x t θ e us)

pub size_pos : {s : Sort} (t : Tree s) → 1 ≤ size t
size_pos (var n) = omega arith
size_pos (node l ts) = omega arith
size_pos nil = omega arith
size_pos (cons t ts) = omega arith

-- A tree in which x occurs becomes at least as large as the value of x.
pub size_at : {s : Sort} (x : ℕ) (θ : Subst) (t : Tree s) → occurs x t ≡ true → size (θ x) ≤ size (apply θ t)
size_at x θ (var n) h = rw (eqb-true n x h) (omega arith)
size_at x θ (node l ts) h = let k = size_at x θ ts h in omega arith
size_at x θ nil h = absurd (both_ways true (sym h) refl)
size_at x θ (cons t ts) h = either (occurs x t) h (size_at x θ t) (size_at x θ ts)
  where
    either : (b : Bool) → (b || occurs x ts) ≡ true → (b ≡ true → size (θ x) ≤ size (apply θ t)) → (occurs x ts ≡ true → size (θ x) ≤ size (apply θ ts))
        → size (θ x) ≤ suc (size (apply θ t) + size (apply θ ts))
    either true e f g = let k = f refl in omega arith
    either false e f g = let k = g e in omega arith

-- No substitution makes a variable equal to a larger term in which it occurs.
pub no_loop : (x : ℕ) (θ : Subst) (l : Label) (ts : Terms) → occurs x ts ≡ true → θ x ≡ node l (apply θ ts) → ⊥
no_loop x θ l ts h e = let k = size_at x θ ts h in omega (arith, ap size e)
