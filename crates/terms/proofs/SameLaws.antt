-- The tests for identity say true exactly of what is equal.
use Rattle.std.proofs.Common.{◌≡◌, true, false, eqb, ℤ, pos, negsuc, refl, ap, subst, ap₂}
use Rattle.std.proofs.lemmas.Bool.{both_ways, eqb-true, eq-eqb, and_parts, and_from}
use Rattle.terms.specs.Terms.{Label, named, whole, functor, Sort, Tree, var, node, nil, cons, same_int, same_label, same_tree}
use Rattle.terms.specs.Laws.{SameDecides}

pub same_int_true : (y z : ℤ) → same_int y z ≡ true → y ≡ z
same_int_true (pos m) (pos n) e = ap pos (eqb-true m n e)
same_int_true (pos m) (negsuc n) e = absurd (both_ways false refl e)
same_int_true (negsuc m) (pos n) e = absurd (both_ways false refl e)
same_int_true (negsuc m) (negsuc n) e = ap negsuc (eqb-true m n e)

pub same_label_true : (l m : Label) → same_label l m ≡ true → l ≡ m
same_label_true (named m) (named n) e = ap named (eqb-true m n e)
same_label_true (named m) (whole z) e = absurd (both_ways false refl e)
same_label_true (named m) (functor f a) e = absurd (both_ways false refl e)
same_label_true (whole z) (named n) e = absurd (both_ways false refl e)
same_label_true (whole y) (whole z) e = ap whole (same_int_true y z e)
same_label_true (whole z) (functor f a) e = absurd (both_ways false refl e)
same_label_true (functor f a) (named n) e = absurd (both_ways false refl e)
same_label_true (functor f a) (whole z) e = absurd (both_ways false refl e)
same_label_true (functor f a) (functor g b) e = let p = and_parts (eqb f g) (eqb a b) e in ap₂ functor (eqb-true f g p.0) (eqb-true a b p.1)

pub same_int_refl : (z : ℤ) → same_int z z ≡ true
same_int_refl (pos n) = eq-eqb n n refl
same_int_refl (negsuc n) = eq-eqb n n refl

pub same_label_refl : (l : Label) → same_label l l ≡ true
same_label_refl (named n) = eq-eqb n n refl
same_label_refl (whole z) = same_int_refl z
same_label_refl (functor f a) = and_from (eqb f f) (eqb a a) (eq-eqb f f refl) (eq-eqb a a refl)

pub same_label_false : (l m : Label) → same_label l m ≡ false → l ≡ m → ⊥
same_label_false l m e p = both_ways (same_label l m) e (subst (λ (k : Label). same_label l k ≡ true) p (same_label_refl l))

pub same_tree_true : {s : Sort} (t u : Tree s) → same_tree t u ≡ true → t ≡ u
same_tree_true (var m) (var n) e = ap var (eqb-true m n e)
same_tree_true (var m) (node l us) e = absurd (both_ways false refl e)
same_tree_true (node l ts) (var n) e = absurd (both_ways false refl e)
same_tree_true (node l ts) (node m us) e = let p = and_parts (same_label l m) (same_tree ts us) e in ap₂ node (same_label_true l m p.0) (same_tree_true ts us p.1)
same_tree_true nil nil e = refl
same_tree_true nil (cons u us) e = absurd (both_ways false refl e)
same_tree_true (cons t ts) nil e = absurd (both_ways false refl e)
same_tree_true (cons t ts) (cons u us) e = let p = and_parts (same_tree t u) (same_tree ts us) e in ap₂ cons (same_tree_true t u p.0) (same_tree_true ts us p.1)

pub same_tree_refl : {s : Sort} (t : Tree s) → same_tree t t ≡ true
same_tree_refl (var n) = eq-eqb n n refl
same_tree_refl (node l ts) = and_from (same_label l l) (same_tree ts ts) (same_label_refl l) (same_tree_refl ts)
same_tree_refl nil = refl
same_tree_refl (cons t ts) = and_from (same_tree t t) (same_tree ts ts) (same_tree_refl t) (same_tree_refl ts)

pub same_decides : SameDecides
same_decides s t u = (same_tree_true t u, λ p. subst (λ (w : Tree s). same_tree t w ≡ true) p (same_tree_refl t))
