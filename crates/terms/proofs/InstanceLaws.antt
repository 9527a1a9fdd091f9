-- Trees that are instances of each other are alike.
use Rattle.std.proofs.Common.{◌≡◌, ℕ, sym, refl, ap, ◌∙◌, ap₂}
use Rattle.std.proofs.lemmas.Bool.{true≢false}
use Rattle.terms.specs.Terms.{Sort, Tree, Term, var, node, nil, cons, apply}
use Rattle.terms.specs.Renamings.{rename, Alike}
use Rattle.terms.specs.Unifiers.{Subst}

-- Some substitution makes u of t.
abbrev pub Instance : {s : Sort} (t u : Tree s) → Type 0
Instance t u = (σ : Subst) × (apply σ t ≡ u)

-- The number of a variable.
abbrev name_of : Term → ℕ
name_of (var n) = n
name_of (node l ts) = 0

-- Where τ takes back what σ did, σ was a renaming.
back_var : (t : Term) (n : ℕ) (τ : Subst) → apply τ t ≡ var n → t ≡ var (name_of t)
back_var (var m) n τ e = refl
back_var (node l ts) n τ e = absurd (true≢false cc)

renames : {s : Sort} (σ τ : Subst) (t : Tree s) → apply τ (apply σ t) ≡ t → apply σ t ≡ rename (λ n. name_of (σ n)) t
renames σ τ (var n) e = back_var (σ n) n τ e
renames σ τ (node l ts) e = ap (node l) (renames σ τ ts (cc))
renames σ τ nil e = refl
renames σ τ (cons t ts) e = ap₂ cons (renames σ τ t (cc)) (renames σ τ ts (cc))

pub alike_instances : {s : Sort} {t u : Tree s} → Instance t u → Instance u t → Alike t u
alike_instances {t = t} {u = u} a b = record {
  to = λ n. name_of (a.0 n);
  from = λ n. name_of (b.0 n);
  there = sym (renames a.0 b.0 t (ap (apply b.0) a.1 ∙ b.1)) ∙ a.1;
  back = sym (renames b.0 a.0 u (ap (apply a.0) b.1 ∙ a.1)) ∙ b.1;
}
