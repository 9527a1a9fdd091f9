-- Rows that are alike stay alike when the same two places are unified in both.
use Rattle.std.proofs.Common.{◌≡◌, ℕ, sym, ap, ◌∙◌, Option, Some, None}
use Rattle.terms.specs.Terms.{Sort, Tree, Term, Terms, var, apply, pick}
use Rattle.terms.specs.Renamings.{rename, Alike}
use Rattle.terms.specs.Unifiers.{Subst, Absorbs, Idempotent, Unifier}
use Rattle.terms.specs.Laws.{Unified, BothUnify, AlikeUnify}
use Rattle.terms.proofs.TermLaws.{apply_apply, absorbs_tree}
use Rattle.terms.proofs.RowLaws.{apply_pick}
use Rattle.terms.proofs.Robinson.{unify_exact}
use Rattle.terms.proofs.AlikeLaws.{alike_sym}
use Rattle.terms.proofs.InstanceLaws.{Instance, alike_instances}

module _ (σ τ : Subst) (iσ : Idempotent σ) (ts us : Terms) (alike : Alike (apply σ ts) (apply τ us)) (i j : ℕ) where
  -- A unifier of two places of us, over the values τ, is carried over to ts and σ by the renaming.
  carried : (ρ : Subst) → Absorbs ρ τ → Unifier ρ (pick us i) (pick us j) → (θ : Subst) × Absorbs θ σ × Unifier θ (pick ts i) (pick ts j) × (apply θ ts ≡ apply ρ us)
  carried ρ a e = (θ, absorbing, unifying, whole)
    where
      θ : Subst
      θ n = apply ρ (rename alike.to (σ n))

      through : {s : Sort} (t : Tree s) → apply θ t ≡ apply ρ (rename alike.to (apply σ t))
      through t = sym (apply_apply (λ n. rename alike.to (σ n)) ρ t) ∙ ap (apply ρ) (sym (apply_apply σ (λ n. var (alike.to n)) t))

      absorbing : Absorbs θ σ
      absorbing n = through (σ n) ∙ ap (λ (t : Term). apply ρ (rename alike.to t)) (iσ n)

      whole : apply θ ts ≡ apply ρ us
      whole = through ts ∙ ap (apply ρ) alike.there ∙ absorbs_tree ρ τ a us

      place : (k : ℕ) → apply θ (pick ts k) ≡ apply ρ (pick us k)
      place k = apply_pick θ ts k ∙ ap (λ (t : Terms). pick t k) whole ∙ sym (apply_pick ρ us k)

      unifying : Unifier θ (pick ts i) (pick ts j)
      unifying = place i ∙ e ∙ sym (place j)

  -- What unification makes of us is an instance of what it makes of ts.
  instance_of : (σ' τ' : Subst) → Unified σ (pick ts i) (pick ts j) (Some σ') → Unified τ (pick us i) (pick us j) (Some τ') → Instance (apply σ' ts) (apply τ' us)
  instance_of σ' τ' p q =
      let b = (q.1 τ').1 q.0 in
      let c = carried τ' b.0 b.1 in
      (c.0, absorbs_tree c.0 σ' ((p.1 c.0).0 (c.1, c.2)) ts ∙ c.3)

pub unify_alike : (σ τ : Subst) → Idempotent σ → Idempotent τ → (ts us : Terms) → Alike (apply σ ts) (apply τ us) → (i j : ℕ)
    → (p q : Option Subst) → Unified σ (pick ts i) (pick ts j) p → Unified τ (pick us i) (pick us j) q → BothUnify ts us p q
unify_alike σ τ a b ts us e i j None None f g = tt
unify_alike σ τ a b ts us e i j None (Some τ') f g = let r = (g.1 τ').1 g.0 in let c = carried σ τ a ts us e i j τ' r.0 r.1 in f c.0 c.1 c.2
unify_alike σ τ a b ts us e i j (Some σ') None f g = let r = (f.1 σ').1 f.0 in let c = carried τ σ b us ts (alike_sym e) i j σ' r.0 r.1 in g c.0 c.1 c.2
unify_alike σ τ a b ts us e i j (Some σ') (Some τ') f g = alike_instances (instance_of σ τ a ts us e i j σ' τ' f g) (instance_of τ σ b us ts (alike_sym e) i j τ' σ' g f)

pub alike_unify : AlikeUnify
alike_unify σ τ a b ts us e i j = unify_alike σ τ a b ts us e i j _ _ (unify_exact σ (pick ts i) (pick ts j) a) (unify_exact τ (pick us i) (pick us j) b)
