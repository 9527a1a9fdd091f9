-- Links keep the merges: none at first, one more after two classes are joined; equal roots tell that two cells are of one class.
use Rattle.std.proofs.Common.{◌≡◌, ℕ, suc, ◌<◌, ◌≤◌, Bool, true, false, cond, ◌||◌, eqb, ◌⊎◌, List, [], ◌∷◌, length, sym, refl, ap, ◌∙◌, subst, ⊎_elim, arith}
use mathlib.Core.Bool.{Bool-set}
use mathlib.Core.Logic.{∥∥₁_elim}
use mathlib.Core.HLevel.{Π_prop, ×_prop, Unit-prop}
use native.Mathlib.Nat.{ℕ_set}
use native.Mathlib.Bridge.{le_prop}
use Rattle.std.proofs.lemmas.Bool.{both_ways, eqb-true, eqb-false, eq-eqb, cases_eq, or_left, or_right, or_parts}
use Rattle.classes.specs.Merges.{Merge, rep, same_class, Joined}
use Rattle.classes.specs.Links.{named, Linked, Linked-prop, OnWay}
use Rattle.classes.proofs.MergeCount.{merges_fewer}

joined_prop : (n : ℕ) (merges : List Merge) → IsProp (Joined n merges)
joined_prop n [] u v = Unit-prop u v
joined_prop n (m ∷ merges) u v =
    let apart : IsProp (same_class merges m.0 m.1 ≡ false) = Bool-set _ _ in
    λ i. (le_prop u.0 v.0 i, le_prop u.1 v.1 i, apart u.2 v.2 i, joined_prop n merges u.3 v.3 i)

pub linked_of : (merges : List Merge) (link rank : ℕ → ℕ) → ∥ Linked merges link rank ∥₁ → Linked merges link rank
linked_of merges link rank h = ∥∥₁_elim h prop (λ l. l)
  where
    prop : IsProp (Linked merges link rank)
    prop = Linked-prop (joined_prop 4096 merges) (Π_prop λ x. le_prop) (Π_prop λ x. Π_prop λ y. Π_prop λ e. ℕ_set _ _)
        (Π_prop λ x. Π_prop λ y. Π_prop λ e. le_prop) (Π_prop λ x. Π_prop λ y. Π_prop λ e. Π_prop λ f. Π_prop λ g. ℕ_set _ _) (Π_prop λ x. le_prop)
        (Π_prop λ x. Π_prop λ e. ×_prop (ℕ_set _ _) (ℕ_set _ _)) (Π_prop λ x. Π_prop λ y. Π_prop λ e. Bool-set _ _)

-- each cell is a class of its own
pub linked_none : (link rank : ℕ → ℕ) → ((x : ℕ) → link x ≡ 0) → ((x : ℕ) → rank x ≡ 0) → Linked [] link rank
linked_none link rank bare none =
    record {
      joined = tt;
      inside = λ x. let a = bare x in omega arith;
      within = λ x y e. absurd (let a = bare x in omega arith);
      rises = λ x y e. absurd (let a = bare x in omega arith);
      one = λ x y e f same. same;
      low = λ x. let a = none x in omega arith;
      untouched = λ x e. (bare x, none x);
      meets = λ x y e. absurd (let a = bare x in omega arith);
    }

module _ (merges : List Merge) (link rank : ℕ → ℕ) (linked : Linked merges link rank) where
  pub few : length merges < 4096
  few = merges_fewer 4096 merges (omega arith) linked.joined

  -- Two roots are joined: the link of c, which was 0, goes to d.
  module _ (p q a b c d : ℕ) (left : p < 4096) (right : q < 4096) (apart : same_class merges p q ≡ false)
      (ra : OnWay merges p a) (ta : link a ≡ 0) (rb : OnWay merges q b) (tb : link b ≡ 0) (sides : ((c ≡ a) × (d ≡ b)) ⊎ ((c ≡ b) × (d ≡ a)))
      (link' rank' : ℕ → ℕ) (hung : link' c ≡ suc d) (others : (x : ℕ) → (x ≡ c → ⊥) → link' x ≡ link x)
      (higher : rank c < rank' d) (grown : rank d ≤ rank' d) (bound : rank' d ≤ suc (length merges))
      (ranks : (x : ℕ) → (x ≡ d → ⊥) → rank' x ≡ rank x) where
    abbrev e : ℕ → ℕ
    e = rep merges

    abbrev new : List Merge
    new = (p, q) ∷ merges

    abbrev after : ℕ → ℕ
    after x = cond (eqb x (e q)) (e p) x

    pq : e p ≡ e q → ⊥
    pq = eqb-false (e p) (e q) apart

    after_p : after (e p) ≡ e p
    after_p = ap (λ (t : Bool). cond t (e p) (e p)) apart

    after_q : after (e q) ≡ e p
    after_q = ap (λ (t : Bool). cond t (e p) (e q)) (eq-eqb (e q) (e q) refl)

    rep_a : rep new a ≡ e p
    rep_a = ap after ra.same ∙ after_p

    rep_b : rep new b ≡ e p
    rep_b = ap after rb.same ∙ after_q

    ab : a ≡ b → ⊥
    ab s = pq (sym ra.same ∙ ap e s ∙ rb.same)

    cd : c ≡ d → ⊥
    cd s = ⊎_elim (λ x. ab (sym x.0 ∙ s ∙ x.1)) (λ x. ab (sym x.1 ∙ sym s ∙ x.0)) sides

    rep_cd : rep new c ≡ rep new d
    rep_cd = ⊎_elim (λ x. ap (rep new) x.0 ∙ rep_a ∙ sym (ap (rep new) x.1 ∙ rep_b)) (λ x. ap (rep new) x.0 ∙ rep_b ∙ sym (ap (rep new) x.1 ∙ rep_a)) sides

    named_old : (x : ℕ) → named merges x ≡ true → named new x ≡ true
    named_old x = or_right (eqb x p || eqb x q) (named merges x)

    named_p : (x : ℕ) → x ≡ p → named new x ≡ true
    named_p x s = or_left (eqb x p || eqb x q) (named merges x) (or_left (eqb x p) (eqb x q) (eq-eqb x p s))

    named_q : (x : ℕ) → x ≡ q → named new x ≡ true
    named_q x s = or_left (eqb x p || eqb x q) (named merges x) (or_right (eqb x p) (eqb x q) (eq-eqb x q s))

    named_a : named new a ≡ true
    named_a = ⊎_elim (named_p a) (λ ne. named_old a (ra.known ne)) (cases_eq a p)

    named_b : named new b ≡ true
    named_b = ⊎_elim (named_q b) (λ ne. named_old b (rb.known ne)) (cases_eq b q)

    named_c : named new c ≡ true
    named_c = ⊎_elim (λ x. subst (λ n. named new n ≡ true) (sym x.0) named_a) (λ x. subst (λ n. named new n ≡ true) (sym x.0) named_b) sides

    named_d : named new d ≡ true
    named_d = ⊎_elim (λ x. subst (λ n. named new n ≡ true) (sym x.1) named_b) (λ x. subst (λ n. named new n ≡ true) (sym x.1) named_a) sides

    d_low : d < 4096
    d_low = ⊎_elim (λ x. subst (λ n. n < 4096) (sym x.1) rb.below) (λ x. subst (λ n. n < 4096) (sym x.1) ra.below) sides

    -- where the link of c goes
    c_goes : (y : ℕ) → link' c ≡ suc y → d ≡ y
    c_goes y s = omega (arith, hung, s)

    grows : (y : ℕ) → rank y ≤ rank' y
    grows y = ⊎_elim (λ s. subst (λ n. rank n ≤ rank' n) (sym s) grown) (λ ne. let a = ranks y ne in omega arith) (cases_eq y d)

    -- a root but c of a class that both joined
    root_left : (x : ℕ) → link x ≡ 0 → e x ≡ e p → x ≡ a
    root_left x t s = linked.one x a t ta (s ∙ sym ra.same)

    root_right : (x : ℕ) → link x ≡ 0 → e x ≡ e q → x ≡ b
    root_right x t s = linked.one x b t tb (s ∙ sym rb.same)

    both_left : (x y : ℕ) → (x ≡ c → ⊥) → (y ≡ c → ⊥) → x ≡ b → y ≡ a → ⊥
    both_left x y nx ny sx sy = ⊎_elim (λ s. ny (sy ∙ sym s.0)) (λ s. nx (sx ∙ sym s.0)) sides

    not_c : (x : ℕ) → link' x ≡ 0 → x ≡ c → ⊥
    not_c x t s = let u : link' c ≡ 0 = subst (λ n. link' n ≡ 0) s t in omega (arith, hung, u)

    one_root : (x y : ℕ) → link' x ≡ 0 → link' y ≡ 0 → rep new x ≡ rep new y → x ≡ y
    one_root x y tx ty s = by (eqb (e x) (e q)) (eqb (e y) (e q)) refl refl s
      where
        lx : link x ≡ 0
        lx = sym (others x (not_c x tx)) ∙ tx

        ly : link y ≡ 0
        ly = sym (others y (not_c y ty)) ∙ ty

        by : (i j : Bool) → eqb (e x) (e q) ≡ i → eqb (e y) (e q) ≡ j → cond i (e p) (e x) ≡ cond j (e p) (e y) → x ≡ y
        by true true i j s = root_right x lx (eqb-true _ _ i) ∙ sym (root_right y ly (eqb-true _ _ j))
        by true false i j s = absurd (both_left x y (not_c x tx) (not_c y ty) (root_right x lx (eqb-true _ _ i)) (root_left y ly (sym s)))
        by false true i j s = absurd (both_left y x (not_c y ty) (not_c x tx) (root_right y ly (eqb-true _ _ j)) (root_left x lx s))
        by false false i j s = linked.one x y lx ly s

    pub linked_more : Linked ((p, q) ∷ merges) link' rank'
    linked_more =
        record {
          joined = (left, right, apart, linked.joined);
          inside = λ x. ⊎_elim (λ s. let t : link' x ≡ suc d = ap link' s ∙ hung in omega (arith, d_low)) (λ ne. let t = others x ne in let u = linked.inside x in omega arith) (cases_eq x c);
          within = λ x y t. ⊎_elim (λ s. ap (rep new) s ∙ rep_cd ∙ ap (rep new) (c_goes y (ap link' (sym s) ∙ t))) (λ ne. ap after (linked.within x y (sym (others x ne) ∙ t))) (cases_eq x c);
          rises = λ x y t. ⊎_elim (λ s. from_c x y s (c_goes y (ap link' (sym s) ∙ t))) (λ ne. from_other x y ne (sym (others x ne) ∙ t)) (cases_eq x c);
          one = one_root;
          low = λ x. ⊎_elim (λ s. subst (λ n. rank' n ≤ suc (length merges)) (sym s) bound) (λ ne. let t = ranks x ne in let u = linked.low x in omega arith) (cases_eq x d);
          untouched = λ x s. let old = (or_parts (eqb x p || eqb x q) (named merges x) s).1 in let is = linked.untouched x old in (
            others x (λ t. both_ways (named new x) s (ap (named new) t ∙ named_c)) ∙ is.0,
            ranks x (λ t. both_ways (named new x) s (ap (named new) t ∙ named_d)) ∙ is.1,
          );
          meets = λ x y t. ⊎_elim (λ s. subst (λ n. named new n ≡ true) (c_goes y (ap link' (sym s) ∙ t)) named_d) (λ ne. named_old y (linked.meets x y (sym (others x ne) ∙ t))) (cases_eq x c);
        }
      where
        from_c : (x y : ℕ) → x ≡ c → d ≡ y → rank' x < rank' y
        from_c x y s t = let u : rank' x ≡ rank c = ap rank' s ∙ ranks c cd in let v : rank' d ≡ rank' y = ap rank' t in omega arith

        root_d : link d ≡ 0
        root_d = ⊎_elim (λ x. ap link x.1 ∙ tb) (λ x. ap link x.1 ∙ ta) sides

        from_other : (x y : ℕ) → (x ≡ c → ⊥) → link x ≡ suc y → rank' x < rank' y
        from_other x y ne t =
            let nd : x ≡ d → ⊥ = λ s. let u : link d ≡ suc y = ap link (sym s) ∙ t in let v = root_d in omega arith in
            let u = ranks x nd in let v = grows y in let w = linked.rises x y t in omega arith
