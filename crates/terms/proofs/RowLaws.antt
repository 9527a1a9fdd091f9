-- Picking and changing a place of a row goes together with substitution, and with making the row from a list.
use Rattle.std.proofs.Common.{◌≡◌, ℕ, zero, suc, List, [], ◌∷◌, get_or, set, refl, ap}
use Rattle.terms.specs.Terms.{named, Term, Terms, node, nil, cons, apply, pick, change, row}
use Rattle.terms.specs.Unifiers.{Subst}

pub apply_pick : (σ : Subst) (ts : Terms) (i : ℕ) → apply σ (pick ts i) ≡ pick (apply σ ts) i
apply_pick σ nil i = refl
apply_pick σ (cons t ts) zero = refl
apply_pick σ (cons t ts) (suc i) = apply_pick σ ts i

pub apply_change : (σ : Subst) (ts : Terms) (i : ℕ) (u : Term) → apply σ (change ts i u) ≡ change (apply σ ts) i (apply σ u)
apply_change σ nil i u = refl
apply_change σ (cons t ts) zero u = refl
apply_change σ (cons t ts) (suc i) u = ap (cons (apply σ t)) (apply_change σ ts i u)

pub row_set : {A : Type 0} (f : A → Term) (xs : List A) (i : ℕ) (y : A) → row f (set xs i y) ≡ change (row f xs) i (f y)
row_set f [] i y = refl
row_set f (x ∷ xs) zero y = refl
row_set f (x ∷ xs) (suc i) y = ap (cons (f x)) (row_set f xs i y)

-- The default of the list has to stand for what a row has past its end.
pub row_pick : {A : Type 0} (f : A → Term) (xs : List A) (i : ℕ) (d : A) → f d ≡ node (named 0) nil → f (get_or xs i d) ≡ pick (row f xs) i
row_pick f [] i d e = e
row_pick f (x ∷ xs) zero d e = refl
row_pick f (x ∷ xs) (suc i) d e = row_pick f xs i d e
