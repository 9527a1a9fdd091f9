-- With n cells in use and no cycle, n + 1 layers reach the end of all that a word spells.
use Rattle.std.proofs.Common.{◌≡◌, ℕ, zero, suc, ◌+◌, ◌<◌, ◌≤◌, Bool, true, false, ◌⊎◌, List, [], ◌∷◌, length, sym, refl, ap, ◌∙◌, subst, inl, inr, arith}
use native.Mathlib.Decide.{dec_lt}
use Rattle.std.proofs.lemmas.Bool.{both_ways, eq-eqb}
use Rattle.cells.specs.declared.cell.Cell.{Cell}
use Rattle.cells.specs.declared.cell.Cell.TheVariants.{Reference, Pointer, Functor, Atom, Integer}
use Rattle.heaps.specs.Lists.{Each, is_in, Different}
use Rattle.heaps.specs.Leads.{Heap, unbound, is_functor, LeadsBy, Leads, Way, step, more, Acyclic}
use Rattle.heaps.specs.Spelling.{arity_of}
use Rattle.heaps.proofs.Sound.{Sound}
use Rattle.heaps.proofs.MemberLaws.{each_map, each_in}
use Rattle.heaps.proofs.Pigeonhole.{pigeonhole}
use Rattle.heaps.proofs.WordKinds.{false_of, unbound_is}

-- g layers reach the end of all that the word c spells
abbrev pub Deep : Heap → ℕ → Cell → Type 0
Deep h zero c = ⊥
Deep h (suc g) (Reference n) = (unbound h n ≡ true) ⊎ Deep h g (h n)
Deep h (suc g) (Pointer n) = (j : ℕ) → n < j → j ≤ n + arity_of (h n) → Deep h g (Reference j)
Deep h (suc g) (Functor name arity) = Unit {0}
Deep h (suc g) (Atom a) = Unit {0}
Deep h (suc g) (Integer z) = Unit {0}

way_more : (h : Heap) {i j k : ℕ} → Way h i j → Leads h j k → Way h i k
way_more h (step l) m = more l (step m)
way_more h (more l w) m = more l (way_more h w m)

-- the same for what cell i holds; of a functor's cell, for each argument
abbrev DeepAt : Heap → ℕ → ℕ → Cell → Type 0
DeepAt h g i (Reference m) = Deep h g (Reference m)
DeepAt h g i (Pointer m) = Deep h g (Pointer m)
DeepAt h g i (Functor name arity) = (j : ℕ) → i < j → j ≤ i + arity → Deep h g (Reference j)
DeepAt h g i (Atom a) = Deep h g (Atom a)
DeepAt h g i (Integer z) = Deep h g (Integer z)

word_deep : (h : Heap) (g i : ℕ) (c : Cell) → is_functor c ≡ false → DeepAt h g i c → Deep h g c
word_deep h g i (Reference m) p d = d
word_deep h g i (Pointer m) p d = d
word_deep h g i (Functor name arity) p d = absurd (both_ways true p refl)
word_deep h g i (Atom a) p d = d
word_deep h g i (Integer z) p d = d

any_deep : (h : Heap) (g i : ℕ) (c : Cell) → 1 ≤ g → DeepAt h g i c → Deep h g c
any_deep h g i (Reference m) p d = d
any_deep h g i (Pointer m) p d = d
any_deep h zero i (Functor name arity) p d = absurd (omega arith)
any_deep h (suc g) i (Functor name arity) p d = tt
any_deep h g i (Atom a) p d = d
any_deep h g i (Integer z) p d = d

argument_deep : (h : Heap) (g i : ℕ) (c : Cell) → DeepAt h g i c → (j : ℕ) → i < j → j ≤ i + arity_of c → Deep h g (Reference j)
argument_deep h g i (Reference m) d j a b = absurd (omega arith)
argument_deep h g i (Pointer m) d j a b = absurd (omega arith)
argument_deep h g i (Functor name k) d j a b = d j a b
argument_deep h g i (Atom k) d j a b = absurd (omega arith)
argument_deep h g i (Integer z) d j a b = absurd (omega arith)

module _ (h : Heap) (n : ℕ) (sound : Sound h n) (acyclic : Acyclic h) where
  -- a cell in use from which a way leads to i
  abbrev Before : ℕ → ℕ → Type 0
  Before i v = (v < n) × Way h v i

  absent : (vs : List ℕ) (i : ℕ) → Each (Before i) vs → is_in i vs ≡ false
  absent vs i w = false_of _ (λ e. acyclic i (each_in (Before i) i vs w e).1)

  -- vs are the cells passed on the way to i
  deep_from : (g : ℕ) (vs : List ℕ) (i : ℕ) → i < n → Different vs → Each (Before i) vs → n ≤ length vs + g → DeepAt h g i (h i)
  deep_from zero vs i lt d w le = absurd (let k = pigeonhole n (i ∷ vs) (absent vs i w, d) (lt, each_map (Before i) (λ v. v < n) (λ v p. p.0) vs w) in omega arith)
  deep_from (suc g) vs i lt d w le = by (λ j l p. deep_from g (i ∷ vs) j p (absent vs i w, d) (passed j l) (omega arith)) (h i) refl
    where
      passed : (j : ℕ) → Leads h i j → Each (Before j) (i ∷ vs)
      passed j l = ((lt, step l), each_map (Before i) (Before j) (λ v p. (p.0, way_more h p.1 l)) vs w)

      by : ((j : ℕ) → Leads h i j → j < n → DeepAt h g j (h j)) → (c : Cell) → h i ≡ c → DeepAt h (suc g) i c
      by ih (Reference m) e = test (unbound h i) refl
        where
          test : (b : Bool) → unbound h i ≡ b → Deep h (suc g) (Reference m)
          test true q = inl (let f : Reference i ≡ Reference m = sym (unbound_is h i q) ∙ e in let p : i ≡ m = cc in subst (λ (y : ℕ). unbound h y ≡ true) p q)
          test false q = inr (let l : Leads h i m = (subst (λ (c : Cell). LeadsBy i c m) (sym e) (omega arith, omega arith), q) in
              let r = sound.references i m lt e in word_deep h g m (h m) r.1 (ih m l r.0))
      by ih (Pointer m) e = let l : Leads h i m = (subst (λ (c : Cell). LeadsBy i c m) (sym e) (omega arith, omega arith), rw e refl) in
          argument_deep h g m (h m) (ih m l (sound.pointers i m lt e).0)
      by ih (Functor name arity) e = λ j p q. inr (let l : Leads h i j = (subst (λ (c : Cell). LeadsBy i c j) (sym e) (p, omega arith), rw e refl) in
          let r = sound.arguments i name arity j lt e p q in word_deep h g j (h j) r.1 (ih j l r.0))
      by ih (Atom a) e = tt
      by ih (Integer z) e = tt

  cell_deep : (i : ℕ) → i < n → DeepAt h n i (h i)
  cell_deep i p = deep_from n [] i p tt tt (omega arith)

  pub deep_all : (c : Cell) → Deep h (suc n) c
  deep_all (Reference m) = test (dec_lt m n)
    where
      test : Dec (m < n) → Deep h (suc n) (Reference m)
      test (yes p) = inr (any_deep h n m (h m) (omega arith) (cell_deep m p))
      test (no p) = inl (rw (sound.beyond m (omega arith)) (eq-eqb m m refl))
  deep_all (Pointer m) = test (dec_lt m n)
    where
      test : Dec (m < n) → Deep h (suc n) (Pointer m)
      test (yes p) = argument_deep h n m (h m) (cell_deep m p)
      test (no p) = λ j a b. absurd (let e = ap arity_of (sound.beyond m (omega arith)) in omega arith)
  deep_all (Functor name arity) = tt
  deep_all (Atom a) = tt
  deep_all (Integer z) = tt
