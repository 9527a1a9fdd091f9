-- Being alike is an equivalence, and is kept by what is made in the same way on both sides.
use Rattle.std.proofs.Common.{◌≡◌, ℕ, sym, ap, ◌∙◌}
use Rattle.terms.specs.Terms.{Sort, Tree, var, apply}
use Rattle.terms.specs.Renamings.{rename, Alike}
use Rattle.terms.specs.Unifiers.{Subst}
use Rattle.terms.proofs.TermLaws.{apply_var, apply_apply}

pub alike_refl : {s : Sort} (t : Tree s) → Alike t t
alike_refl t = record { to = λ n. n; from = λ n. n; there = apply_var t; back = apply_var t }

pub alike_sym : {s : Sort} {t u : Tree s} → Alike t u → Alike u t
alike_sym a = record { to = a.from; from = a.to; there = a.back; back = a.there }

pub rename_rename : {s : Sort} (f g : ℕ → ℕ) (t : Tree s) → rename g (rename f t) ≡ rename (λ n. g (f n)) t
rename_rename f g t = apply_apply (λ n. var (f n)) (λ n. var (g n)) t

pub alike_trans : {s : Sort} {t u w : Tree s} → Alike t u → Alike u w → Alike t w
alike_trans {t = t} {w = w} a b = record {
  to = λ n. b.to (a.to n);
  from = λ n. a.from (b.from n);
  there = sym (rename_rename a.to b.to t) ∙ ap (rename b.to) a.there ∙ b.there;
  back = sym (rename_rename b.from a.from w) ∙ ap (rename a.from) b.back ∙ a.back;
}

-- A way to make trees is the same on both sides if it goes together with every substitution.
pub alike_by : {r s : Sort} (F : Tree r → Tree s) → ((σ : Subst) (t : Tree r) → apply σ (F t) ≡ F (apply σ t)) → {t u : Tree r} → Alike t u → Alike (F t) (F u)
alike_by F nat {t} {u} a = record { to = a.to; from = a.from; there = nat _ t ∙ ap F a.there; back = nat _ u ∙ ap F a.back }
