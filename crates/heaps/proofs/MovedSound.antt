-- Where the cells of a set are moved onto the first n places, rules 1 to 3 hold there again, and words keep rules 1 and 2.
use Rattle.std.proofs.Common.{◌≡◌, ℕ, ◌+◌, ◌-◌, ◌<◌, ◌≤◌, true, false, sym, refl, ap, ◌∙◌, subst, arith}
use native.Mathlib.Decide.{dec_lt}
use Rattle.cells.specs.declared.cell.Cell.{Cell}
use Rattle.cells.specs.declared.cell.Cell.TheVariants.{Reference, Pointer, Functor, Atom, Integer}
use Rattle.heaps.specs.Leads.{Heap, LeadsBy, is_functor, relocate}
use Rattle.heaps.specs.Spelling.{arity_of}
use Rattle.heaps.specs.Rules.{WordKeeps}
use Rattle.heaps.specs.Moving.{Moves}
use Rattle.heaps.proofs.Sound.{Sound}
use Rattle.heaps.proofs.WordKinds.{argument_leads}

-- f takes the set R onto the numbers below n
pub record Onto (R : ℕ → Type 0) (f : ℕ → ℕ) (n : ℕ) : Type 0 where
  pub below : (i : ℕ) → R i → f i < n
  pub every : (j : ℕ) → j < n → (i : ℕ) × R i × (f i ≡ j)

kind_relocate : (f : ℕ → ℕ) (c : Cell) → is_functor (relocate f c) ≡ is_functor c
kind_relocate f (Reference n) = refl
kind_relocate f (Pointer n) = refl
kind_relocate f (Functor name arity) = refl
kind_relocate f (Atom a) = refl
kind_relocate f (Integer z) = refl

module _ (R : ℕ → Type 0) (f : ℕ → ℕ) (h k : Heap) (m : Moves R f h k) (n n' : ℕ) (sound : Sound h n) (onto : Onto R f n') where
  kind_moved : (i : ℕ) → R i → is_functor (k (f i)) ≡ is_functor (h i)
  kind_moved i r = ap is_functor (m.arrives i r) ∙ kind_relocate f (h i)

  pub keeps_moved : (c : Cell) → ((j : ℕ) → LeadsBy 0 c j → R j) → WordKeeps h n c → WordKeeps k n' (relocate f c)
  keeps_moved (Reference i) inside p = let r = inside i (omega arith, omega arith) in (onto.below i r, kind_moved i r ∙ p.1)
  keeps_moved (Pointer i) inside p = let r = inside i (omega arith, omega arith) in (onto.below i r, kind_moved i r ∙ p.1)
  keeps_moved (Functor name arity) inside p = p
  keeps_moved (Atom a) inside p = p
  keeps_moved (Integer z) inside p = p

  -- rules 1 to 3 say of the kinds of cells what they say of those in use alone, since the others are unbound
  in_use : (i : ℕ) → (c : Cell) → h i ≡ c → (c ≡ Reference i → ⊥) → i < n
  in_use i c e ne = test (dec_lt i n)
    where
      test : Dec (i < n) → i < n
      test (yes p) = p
      test (no p) = absurd (ne (sym e ∙ sound.beyond i (omega arith)))

  reference_kind : (i x : ℕ) → h i ≡ Reference x → is_functor (h x) ≡ false
  reference_kind i x e = test (dec_lt i n)
    where
      test : Dec (i < n) → is_functor (h x) ≡ false
      test (yes p) = (sound.references i x p e).1
      test (no p) = let b = sound.beyond i (omega arith) in let q : i ≡ x = cc in subst (λ y. is_functor (h y) ≡ false) q (ap is_functor b)

  -- what the moved cells hold, read back
  module _ (j : ℕ) (lt : j < n') where
    abbrev i : ℕ
    i = (onto.every j lt).0

    r : R i
    r = (onto.every j lt).1

    held : k j ≡ relocate f (h i)
    held = ap k (sym (onto.every j lt).2) ∙ m.arrives i r

    leads : (x : ℕ) → LeadsBy i (h i) x → R x
    leads x l = m.closed i x r l

    reference_moved : (q : ℕ) (c : Cell) → h i ≡ c → relocate f c ≡ Reference q → (q < n') × (is_functor (k q) ≡ false)
    reference_moved q (Reference x) e d =
        let p : f x ≡ q = cc in let rx = leads x (subst (λ c. LeadsBy i c x) (sym e) (omega arith, omega arith)) in
        subst (λ y. (y < n') × (is_functor (k y) ≡ false)) p (onto.below x rx, kind_moved x rx ∙ reference_kind i x e)
    reference_moved q (Pointer x) e d = absurd (let z : ◌≡◌ {A = ℕ} 0 1 = cc in omega arith)
    reference_moved q (Functor name arity) e d = absurd (let z : ◌≡◌ {A = ℕ} 0 1 = cc in omega arith)
    reference_moved q (Atom a) e d = absurd (let z : ◌≡◌ {A = ℕ} 0 1 = cc in omega arith)
    reference_moved q (Integer y) e d = absurd (let z : ◌≡◌ {A = ℕ} 0 1 = cc in omega arith)

    pointer_moved : (q : ℕ) (c : Cell) → h i ≡ c → relocate f c ≡ Pointer q → (q < n') × (is_functor (k q) ≡ true)
    pointer_moved q (Reference x) e d = absurd (let z : ◌≡◌ {A = ℕ} 0 1 = cc in omega arith)
    pointer_moved q (Pointer x) e d =
        let p : f x ≡ q = cc in let rx = leads x (subst (λ c. LeadsBy i c x) (sym e) (omega arith, omega arith)) in
        let lx = in_use i (Pointer x) e (λ g. let z : ◌≡◌ {A = ℕ} 0 1 = cc in omega arith) in
        subst (λ y. (y < n') × (is_functor (k y) ≡ true)) p (onto.below x rx, kind_moved x rx ∙ (sound.pointers i x lx e).1)
    pointer_moved q (Functor name arity) e d = absurd (let z : ◌≡◌ {A = ℕ} 0 1 = cc in omega arith)
    pointer_moved q (Atom a) e d = absurd (let z : ◌≡◌ {A = ℕ} 0 1 = cc in omega arith)
    pointer_moved q (Integer y) e d = absurd (let z : ◌≡◌ {A = ℕ} 0 1 = cc in omega arith)

    argument_moved : (name arity q : ℕ) → j < q → q ≤ j + arity → (c : Cell) → h i ≡ c → relocate f c ≡ Functor name arity → (q < n') × (is_functor (k q) ≡ false)
    argument_moved name arity q a b (Reference x) e d = absurd (let z : ◌≡◌ {A = ℕ} 0 1 = cc in omega arith)
    argument_moved name arity q a b (Pointer x) e d = absurd (let z : ◌≡◌ {A = ℕ} 0 1 = cc in omega arith)
    argument_moved name arity q a b (Functor g w) e d =
        let wa : w ≡ arity = cc in let ar : arity_of (h i) ≡ w = ap arity_of e in let fj = (onto.every j lt).2 in
        let p = m.neighbours i (q - j) r (omega arith) in let x : f (i + (q - j)) ≡ q = omega arith in
        let rx = leads (i + (q - j)) (argument_leads i (i + (q - j)) (h i) (omega arith) (omega arith)) in
        let li = in_use i (Functor g w) e (λ y. let z : ◌≡◌ {A = ℕ} 0 1 = cc in omega arith) in
        subst (λ y. (y < n') × (is_functor (k y) ≡ false)) x
        (onto.below (i + (q - j)) rx, kind_moved (i + (q - j)) rx ∙ (sound.arguments i g w (i + (q - j)) li e (omega arith) (omega arith)).1)
    argument_moved name arity q a b (Atom y) e d = absurd (let z : ◌≡◌ {A = ℕ} 0 1 = cc in omega arith)
    argument_moved name arity q a b (Integer y) e d = absurd (let z : ◌≡◌ {A = ℕ} 0 1 = cc in omega arith)

  pub moved_sound : ((j : ℕ) → n' ≤ j → k j ≡ Reference j) → Sound k n'
  moved_sound beyond = record {
    beyond = beyond;
    references = λ j q lt e. reference_moved j lt q (h (i j lt)) refl (sym (held j lt) ∙ e);
    pointers = λ j q lt e. pointer_moved j lt q (h (i j lt)) refl (sym (held j lt) ∙ e);
    arguments = λ j name arity q lt e a b. argument_moved j lt name arity q a b (h (i j lt)) refl (sym (held j lt) ∙ e);
  }
