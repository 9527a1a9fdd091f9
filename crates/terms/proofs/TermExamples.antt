-- Unification at work on small terms: what it makes of the variables, and where it fails.
use Rattle.std.proofs.Common.{◌≡◌, true, false, pos, refl, Option, Some, None}
use Rattle.terms.specs.Terms.{named, whole, functor, Term, var, node, nil, cons, apply, only, same_tree}
use Rattle.terms.specs.Unifiers.{Subst}
use Rattle.terms.specs.Robinson.{unify}

abbrev a : Term
a = node (named 1) nil

abbrev f : Term → Term
f t = node (functor 2 1) (cons t nil)

abbrev g : Term → Term → Term
g t u = node (functor 3 2) (cons t (cons u nil))

-- A term under the values found.
abbrev under : Option Subst → Term → Option Term
under None t = None
under (Some σ) t = Some (apply σ t)

-- g(X, Y) and g(Y, a): both variables become a.
all_equal : under (unify var (g (var 0) (var 1)) (g (var 1) a)) (g (var 0) (var 1)) ≡ Some (g a a)
all_equal = refl

-- X and f(X) have no unifier.
loop : unify var (var 0) (f (var 0)) ≡ None
loop = refl

-- g(X, X) and g(Y, f(Y)) have none either: the occurs check fails after the first argument.
later_loop : unify var (g (var 0) (var 0)) (g (var 1) (f (var 1))) ≡ None
later_loop = refl

-- Of two variables the higher is bound to the lower, either way round.
to_lower : under (unify var (var 4) (var 7)) (g (var 4) (var 7)) ≡ Some (g (var 4) (var 4))
to_lower = refl

to_lower_back : under (unify var (var 7) (var 4)) (g (var 4) (var 7)) ≡ Some (g (var 4) (var 4))
to_lower_back = refl

-- An atom and an integer are different, whatever their numbers.
clash : unify var (node (named 1) nil) (node (whole (pos 1)) nil) ≡ None
clash = refl

-- Over the values that make Z be f(X), the terms Z and f(a) unify, and X becomes a.
over_values : under (unify (only 2 (f (var 0))) (var 2) (f a)) (g (var 2) (var 0)) ≡ Some (g (f a) a)
over_values = refl

-- Identical terms, and terms that differ in one variable.
same : (same_tree (g (var 0) a) (g (var 0) a) ≡ true) × (same_tree (g (var 0) a) (g (var 1) a) ≡ false)
same = (refl, refl)
