-- Each step of unification makes the goals smaller, or takes a variable out of them and at most squares their size.
use Rattle.std.proofs.Common.{◌≡◌, ℕ, suc, ◌+◌, ◌*◌, ◌<◌, ◌≤◌, Bool, true, false, cond, ◌||◌, eqb, ltb, ◌⊎◌, List, [], ◌∷◌, refl, inl, inr, mul-le-mul, arith, None}
use Rattle.std.proofs.lemmas.Bool.{eq-eqb, or_cases, or_from, or_left, or_right}
use Rattle.terms.specs.Terms.{Sort, Tree, Term, Terms, var, node, nil, cons, apply, occurs, size, only, same_label}
use Rattle.terms.specs.Unifiers.{Subst}
use Rattle.terms.specs.Robinson.{Goal, both, each, apply_goal, apply_goals, Next, stop, go, bind, meet, meet_row, step}
use Rattle.terms.proofs.TermLaws.{ne_occurs, size_pos}

-- What stands in one of two parts stands in one of the two that they come from, or in the third.
or_lift : (a b c d e : Bool) → (a ≡ true → (c ≡ true) ⊎ (e ≡ true)) → (b ≡ true → (d ≡ true) ⊎ (e ≡ true)) → (a || b) ≡ true → ((c || d) ≡ true) ⊎ (e ≡ true)
or_lift a b c d e f g h = elim (or_cases a b h) [
  | inl p ↦ elim (f p) [ inl q ↦ inl (or_left c d q) | inr q ↦ inr q ]
  | inr p ↦ elim (g p) [ inl q ↦ inl (or_right c d q) | inr q ↦ inr q ]
]

-- What occurs after a change occurred before it, or occurs in what was put in.
pub occurs_only : {s : Sort} (y x : ℕ) (t : Term) (u : Tree s) → occurs y (apply (only x t) u) ≡ true → (occurs y u ≡ true) ⊎ (occurs y t ≡ true)
occurs_only y x t (var n) h = test (eqb n x) h
  where
    test : (b : Bool) → occurs y (cond b t (var n)) ≡ true → (occurs y (var n) ≡ true) ⊎ (occurs y t ≡ true)
    test true e = inr e
    test false e = inl e
occurs_only y x t (node l us) h = occurs_only y x t us h
occurs_only y x t nil h = inl h
occurs_only y x t (cons u us) h = or_lift _ _ _ _ _ (occurs_only y x t u) (occurs_only y x t us) h

-- The variable that was changed does not occur any more.
pub occurs_gone : {s : Sort} (x : ℕ) (t : Term) (u : Tree s) → occurs x t ≡ false → occurs x (apply (only x t) u) ≡ false
occurs_gone x t (var n) h = test (eqb n x) refl
  where
    test : (b : Bool) → eqb n x ≡ b → occurs x (cond b t (var n)) ≡ false
    test true e = h
    test false e = e
occurs_gone x t (node l us) h = occurs_gone x t us h
occurs_gone x t nil h = refl
occurs_gone x t (cons u us) h = or_from _ _ (occurs_gone x t u h) (occurs_gone x t us h)

-- A change makes a tree larger at most by the size of what is put in, as a factor.
pub size_only : {s : Sort} (x : ℕ) (t : Term) (u : Tree s) → size (apply (only x t) u) ≤ size u * size t
size_only x t (var n) = test (eqb n x)
  where
    test : (b : Bool) → size (cond b t (var n)) ≤ 1 * size t
    test true = omega arith
    test false = let p = size_pos t in omega arith
size_only x t (node l us) = let p = size_pos t in let q = size_only x t us in omega arith
size_only x t nil = let p = size_pos t in omega arith
size_only x t (cons u us) = let p = size_pos t in let q = size_only x t us in let r = size_only x t u in omega arith

abbrev pub size_goal : Goal → ℕ
size_goal (both t u) = suc (size t + size u)
size_goal (each ts us) = suc (size ts + size us)

abbrev pub size_goals : List Goal → ℕ
size_goals [] = 0
size_goals (g ∷ gs) = size_goal g + size_goals gs

abbrev pub occurs_goal : ℕ → Goal → Bool
occurs_goal x (both t u) = occurs x t || occurs x u
occurs_goal x (each ts us) = occurs x ts || occurs x us

abbrev pub occurs_goals : ℕ → List Goal → Bool
occurs_goals x [] = false
occurs_goals x (g ∷ gs) = occurs_goal x g || occurs_goals x gs

pub size_goals_lem : (x : ℕ) (t : Term) (gs : List Goal) → size_goals (apply_goals (only x t) gs) ≤ size_goals gs * size t
size_goals_lem x t [] = omega arith
size_goals_lem x t (both a b ∷ gs) = let p = size_pos t in let q = size_only x t a in let r = size_only x t b in let s = size_goals_lem x t gs in omega arith
size_goals_lem x t (each a b ∷ gs) = let p = size_pos t in let q = size_only x t a in let r = size_only x t b in let s = size_goals_lem x t gs in omega arith

goal_only : (y x : ℕ) (t : Term) (g : Goal) → occurs_goal y (apply_goal (only x t) g) ≡ true → (occurs_goal y g ≡ true) ⊎ (occurs y t ≡ true)
goal_only y x t (both a b) h = or_lift _ _ _ _ _ (occurs_only y x t a) (occurs_only y x t b) h
goal_only y x t (each a b) h = or_lift _ _ _ _ _ (occurs_only y x t a) (occurs_only y x t b) h

pub goals_only : (y x : ℕ) (t : Term) (gs : List Goal) → occurs_goals y (apply_goals (only x t) gs) ≡ true → (occurs_goals y gs ≡ true) ⊎ (occurs y t ≡ true)
goals_only y x t [] h = inl h
goals_only y x t (g ∷ gs) h = or_lift _ _ _ _ _ (goal_only y x t g) (goals_only y x t gs) h

goal_gone : (x : ℕ) (t : Term) (g : Goal) → occurs x t ≡ false → occurs_goal x (apply_goal (only x t) g) ≡ false
goal_gone x t (both a b) h = or_from _ _ (occurs_gone x t a h) (occurs_gone x t b h)
goal_gone x t (each a b) h = or_from _ _ (occurs_gone x t a h) (occurs_gone x t b h)

pub goals_gone : (x : ℕ) (t : Term) (gs : List Goal) → occurs x t ≡ false → occurs_goals x (apply_goals (only x t) gs) ≡ false
goals_gone x t [] h = refl
goals_gone x t (g ∷ gs) h = or_from _ _ (goal_gone x t g h) (goals_gone x t gs h)

-- The goals hs are smaller than gs, and have no new variable.
pub record Smaller (gs hs : List Goal) : Type 0 where
  pub less : size_goals hs < size_goals gs
  pub kept : (y : ℕ) → occurs_goals y hs ≡ true → occurs_goals y gs ≡ true

-- The goals hs lack a variable x of gs, have no new one, and are at most as large as the square of gs.
pub record Fewer (gs hs : List Goal) : Type 0 where
  pub x : ℕ
  pub was : occurs_goals x gs ≡ true
  pub gone : occurs_goals x hs ≡ false
  pub kept : (y : ℕ) → occurs_goals y hs ≡ true → occurs_goals y gs ≡ true
  pub square : size_goals hs ≤ size_goals gs * size_goals gs

abbrev pub Falls : List Goal → Next → Type 0
Falls gs (stop r) = Unit {0}
Falls gs (go τ hs) = Smaller gs hs ⊎ Fewer gs hs

bind_falls : (x : ℕ) (t : Term) (g : Goal) (gs : List Goal) (σ : Subst) → occurs_goal x g ≡ true → occurs x t ≡ false
    → ((y : ℕ) → occurs y t ≡ true → occurs_goal y g ≡ true) → size t ≤ size_goal g → Falls (g ∷ gs) (bind x t σ gs)
bind_falls x t g gs σ here absent inside small = inr (record {
  x = x;
  was = or_left _ _ here;
  gone = goals_gone x t gs absent;
  kept = λ y h. elim (goals_only y x t gs h) [ inl p ↦ or_right _ _ p | inr p ↦ or_left _ _ (inside y p) ];
  square = let a = size_goals_lem x t gs in
      let b : size_goals gs * size t ≤ size_goals (g ∷ gs) * size_goals (g ∷ gs) = mul-le-mul (omega arith) (omega arith) in omega arith;
})

eq_occurs : (x : ℕ) → occurs x (var x) ≡ true
eq_occurs x = eq-eqb x x refl

falls_left : (σ : Subst) (x : ℕ) (u : Term) (gs : List Goal) → occurs x u ≡ false → Falls (both (var x) u ∷ gs) (bind x u σ gs)
falls_left σ x u gs e = bind_falls x u (both (var x) u) gs σ (or_left _ (occurs x u) (eq_occurs x)) e (λ z h. or_right (eqb x z) (occurs z u) h) (omega arith)

falls_right : (σ : Subst) (y : ℕ) (t : Term) (gs : List Goal) → occurs y t ≡ false → Falls (both t (var y) ∷ gs) (bind y t σ gs)
falls_right σ y t gs e = bind_falls y t (both t (var y)) gs σ (or_right (occurs y t) _ (eq_occurs y)) e (λ z h. or_left (occurs z t) (eqb y z) h) (omega arith)

meet_falls : (t u : Term) (σ : Subst) (gs : List Goal) → Falls (both t u ∷ gs) (meet t u σ gs)
meet_falls (var x) (var y) σ gs = test (eqb x y) (ltb x y) refl
  where
    test : (b c : Bool) → eqb x y ≡ b → Falls (both (var x) (var y) ∷ gs) (cond b (go σ gs) (cond c (bind y (var x) σ gs) (bind x (var y) σ gs)))
    test true c e = inl (record { less = omega arith; kept = λ z h. or_right _ _ h })
    test false true e = falls_right σ y (var x) gs e
    test false false e = falls_left σ x (var y) gs (ne_occurs x y e)
meet_falls (var x) (node l us) σ gs = test (occurs x us) refl
  where
    test : (b : Bool) → occurs x us ≡ b → Falls (both (var x) (node l us) ∷ gs) (cond b (stop None) (bind x (node l us) σ gs))
    test true e = tt
    test false e = falls_left σ x (node l us) gs e
meet_falls (node l ts) (var y) σ gs = test (occurs y ts) refl
  where
    test : (b : Bool) → occurs y ts ≡ b → Falls (both (node l ts) (var y) ∷ gs) (cond b (stop None) (bind y (node l ts) σ gs))
    test true e = tt
    test false e = falls_right σ y (node l ts) gs e
meet_falls (node l ts) (node m us) σ gs = test (same_label l m)
  where
    test : (b : Bool) → Falls (both (node l ts) (node m us) ∷ gs) (cond b (go σ (each ts us ∷ gs)) (stop None))
    test true = inl (record { less = omega arith; kept = λ z h. h })
    test false = tt

or_four : (a b c d g : Bool) → ((a || b) || ((c || d) || g)) ≡ true → (((a || c) || (b || d)) || g) ≡ true
or_four true b c d g h = refl
or_four false true true d g h = refl
or_four false true false d g h = refl
or_four false false true d g h = refl
or_four false false false d g h = h

row_falls : (ts us : Terms) (σ : Subst) (gs : List Goal) → Falls (each ts us ∷ gs) (meet_row ts us σ gs)
row_falls nil nil σ gs = inl (record { less = omega arith; kept = λ z h. h })
row_falls nil (cons u us) σ gs = tt
row_falls (cons t ts) nil σ gs = tt
row_falls (cons t ts) (cons u us) σ gs = inl (record { less = omega arith; kept = λ z h. or_four (occurs z t) (occurs z u) (occurs z ts) (occurs z us) (occurs_goals z gs) h })

pub step_falls : (σ : Subst) (gs : List Goal) → Falls gs (step σ gs)
step_falls σ [] = tt
step_falls σ (both t u ∷ gs) = meet_falls t u σ gs
step_falls σ (each ts us ∷ gs) = row_falls ts us σ gs
