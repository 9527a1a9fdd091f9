-- What passes along each merge, in both directions, holds of all structures of a class if it holds of one.
use Rattle.std.proofs.Common.{◌≡◌, ℕ, Bool, true, false, cond, eqb, ◌↔◌, List, [], ◌∷◌, sym, refl, subst}
use Rattle.std.proofs.lemmas.Bool.{eqb-true}
use Rattle.heaps.specs.Lists.{Each}
use Rattle.classes.specs.Merges.{Merge, rep, same_class}

module _ (P : ℕ → Type 0) where
  abbrev pub Passes : Merge → Type 0
  Passes m = P m.0 ↔ P m.1

  rep_passes : (merges : List Merge) → Each Passes merges → (p : ℕ) → P p ↔ P (rep merges p)
  rep_passes [] e p = (λ x. x, λ x. x)
  rep_passes (m ∷ merges) e p = test (eqb (rep merges p) (rep merges m.1)) refl (rep_passes merges e.1)
    where
      test : (b : Bool) → eqb (rep merges p) (rep merges m.1) ≡ b → ((q : ℕ) → P q ↔ P (rep merges q)) → P p ↔ P (cond b (rep merges m.0) (rep merges p))
      test true s f = let q = eqb-true _ _ s in (
        λ x. (f m.0).0 (e.0.1 ((f m.1).1 (subst P q ((f p).0 x)))),
        λ x. (f p).1 (subst P (sym q) ((f m.1).0 (e.0.0 ((f m.0).1 x)))),
      )
      test false s f = f p

  pub class_passes : (merges : List Merge) → Each Passes merges → (p q : ℕ) → same_class merges p q ≡ true → P p → P q
  class_passes merges e p q s x = (rep_passes merges e q).1 (subst P (eqb-true _ _ s) ((rep_passes merges e p).0 x))
