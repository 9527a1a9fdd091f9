-- Trees all of whose variables have numbers below a bound.
use Rattle.std.proofs.Common.{◌≡◌, ℕ, zero, suc, ◌<◌, ◌≤◌, refl, ap, ap₂, arith}
use Rattle.terms.specs.Terms.{Sort, Tree, Term, Terms, var, node, nil, cons, apply, pick, change, joined}
use Rattle.terms.specs.Unifiers.{Subst}

abbrev pub Below : {s : Sort} → ℕ → Tree s → Type 0
Below n (var x) = x < n
Below n (node l ts) = Below n ts
Below n nil = Unit {0}
Below n (cons t ts) = Below n t × Below n ts

pub below_more : {s : Sort} (n m : ℕ) → n ≤ m → (t : Tree s) → Below n t → Below m t
below_more n m le (var x) b = omega arith
below_more n m le (node l ts) b = below_more n m le ts b
below_more n m le nil b = tt
below_more n m le (cons t ts) b = (below_more n m le t b.0, below_more n m le ts b.1)

pub below_apply : {s : Sort} (n m : ℕ) (σ : Subst) → ((x : ℕ) → x < n → Below m (σ x)) → (t : Tree s) → Below n t → Below m (apply σ t)
below_apply n m σ f (var x) b = f x b
below_apply n m σ f (node l ts) b = below_apply n m σ f ts b
below_apply n m σ f nil b = tt
below_apply n m σ f (cons t ts) b = (below_apply n m σ f t b.0, below_apply n m σ f ts b.1)

pub below_pick : (n : ℕ) (ts : Terms) (i : ℕ) → Below n ts → Below n (pick ts i)
below_pick n nil i b = tt
below_pick n (cons t ts) zero b = b.0
below_pick n (cons t ts) (suc i) b = below_pick n ts i b.1

pub below_change : (n : ℕ) (ts : Terms) (i : ℕ) (u : Term) → Below n u → Below n ts → Below n (change ts i u)
below_change n nil i u p b = tt
below_change n (cons t ts) zero u p b = (p, b.1)
below_change n (cons t ts) (suc i) u p b = (b.0, below_change n ts i u p b.1)

pub below_joined : (n : ℕ) (ts us : Terms) → Below n ts → Below n us → Below n (joined ts us)
below_joined n nil us a b = b
below_joined n (cons t ts) us a b = (a.0, below_joined n ts us a.1 b)

-- Substitutions that agree below the bound make the same of such a tree.
pub below_agree : {s : Sort} (n : ℕ) (σ τ : Subst) → ((x : ℕ) → x < n → σ x ≡ τ x) → (t : Tree s) → Below n t → apply σ t ≡ apply τ t
below_agree n σ τ f (var x) b = f x b
below_agree n σ τ f (node l ts) b = ap (node l) (below_agree n σ τ f ts b)
below_agree n σ τ f nil b = refl
below_agree n σ τ f (cons t ts) b = ap₂ cons (below_agree n σ τ f t b.0) (below_agree n σ τ f ts b.1)
