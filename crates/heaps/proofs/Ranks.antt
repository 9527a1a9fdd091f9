-- A reading that marks each step along a reference gives every cell a rank that falls along each lead.
-- So a heap that has such a reading has no cycle, and a loop that follows a chain of references comes to an end.
use Rattle.std.proofs.Common.{◌≡◌, ℕ, zero, suc, ◌+◌, ◌<◌, ◌≤◌, true, false, refl, ap, ◌∙◌, arith}
use native.Mathlib.Decide.{dec_lt, ℕ_discrete}
use Rattle.std.proofs.lemmas.Bool.{both_ways, eq-eqb}
use Rattle.cells.specs.declared.cell.Cell.{Cell}
use Rattle.cells.specs.declared.cell.Cell.TheVariants.{Reference, Pointer, Functor, Atom, Integer}
use Rattle.terms.specs.Terms.{named, one, Term, node, nil, cons, size}
use Rattle.heaps.specs.Leads.{Heap, unbound, is_functor, LeadsBy, Leads, Way, step, more, Acyclic}
use Rattle.heaps.specs.Spelling.{label_of, arity_of, run}
use Rattle.heaps.specs.SpellingLaws.{Reads}
use Rattle.heaps.proofs.Sound.{Sound}

-- the mark of a step along a reference
abbrev pub marked : Term → Term
marked t = node (named 0) (cons t nil)

-- the word that spells what cell i holds
abbrev word_for : ℕ → Cell → Cell
word_for i (Reference m) = Reference i
word_for i (Pointer m) = Reference i
word_for i (Functor name arity) = Pointer i
word_for i (Atom a) = Reference i
word_for i (Integer z) = Reference i

reference_for : (i : ℕ) (c : Cell) → is_functor c ≡ false → word_for i c ≡ Reference i
reference_for i (Reference m) e = refl
reference_for i (Pointer m) e = refl
reference_for i (Functor name arity) e = absurd (both_ways true e refl)
reference_for i (Atom a) e = refl
reference_for i (Integer z) e = refl

pointer_for : (i : ℕ) (c : Cell) → is_functor c ≡ true → word_for i c ≡ Pointer i
pointer_for i (Reference m) e = absurd (both_ways false refl e)
pointer_for i (Pointer m) e = absurd (both_ways false refl e)
pointer_for i (Functor name arity) e = refl
pointer_for i (Atom a) e = absurd (both_ways false refl e)
pointer_for i (Integer z) e = absurd (both_ways false refl e)

run_size : (s : Cell → Term) (n k j : ℕ) → n ≤ j → j < n + k → size (s (Reference j)) ≤ size (run s n k)
run_size s n zero j a b = absurd (omega arith)
run_size s n (suc k) j a b = test (ℕ_discrete j n) (run_size s (suc n) k j)
  where
    test : Dec (j ≡ n) → (suc n ≤ j → j < suc n + k → size (s (Reference j)) ≤ size (run s (suc n) k)) → size (s (Reference j)) ≤ size (run s n (suc k))
    test (yes p) f = rw p (omega arith)
    test (no p) f = let q = f (omega arith) (omega arith) in omega arith

module _ (h : Heap) (n : ℕ) (sound : Sound h n) (s : Cell → Term) (reads : Reads marked h s) where
  abbrev rank : ℕ → ℕ
  rank i = size (s (word_for i (h i)))

  rank_falls : (i j : ℕ) → Leads h i j → rank j < rank i
  rank_falls i j l = by (dec_lt i n)
    where
      inside : i < n → (c : Cell) → h i ≡ c → LeadsBy i c j → rank j < rank i
      inside lt (Reference m) e k =
          let x : j ≡ m = omega arith in let r = sound.references i m lt e in
          let a : s (word_for j (h j)) ≡ s (Reference j) = ap s (reference_for j (h j) (rw x r.1)) in
          let b : s (word_for i (h i)) ≡ marked (s (Reference j)) = rw (e, x) (reads (Reference i) ∙ rw (l.1, e)) in
          let p = ap (size {s = one}) a in let q = ap (size {s = one}) b in omega arith
      inside lt (Pointer m) e k =
          let x : j ≡ m = omega arith in let r = sound.pointers i m lt e in
          let a : s (word_for j (h j)) ≡ s (Pointer j) = ap s (pointer_for j (h j) (rw x r.1)) in
          let b : s (word_for i (h i)) ≡ marked (s (Pointer j)) = rw (e, x) (reads (Reference i) ∙ rw (l.1, e)) in
          let p = ap (size {s = one}) a in let q = ap (size {s = one}) b in omega arith
      inside lt (Functor f a) e k =
          let r = sound.arguments i f a j lt e k.0 (omega arith) in
          let p : s (word_for j (h j)) ≡ s (Reference j) = ap s (reference_for j (h j) r.1) in
          let q : s (word_for i (h i)) ≡ node (label_of (h i)) (run s (suc i) (arity_of (h i))) = ap s (pointer_for i (h i) (rw e refl)) ∙ reads (Pointer i) in
          let u = ap (size {s = one}) p in let v = ap (size {s = one}) q in
          let w = run_size s (suc i) (arity_of (h i)) j k.0 (rw e (omega arith)) in omega arith
      inside lt (Atom a) e k = absurd (omega arith)
      inside lt (Integer z) e k = absurd (omega arith)

      by : Dec (i < n) → rank j < rank i
      by (yes p) = inside p (h i) refl l.0
      by (no p) = absurd (both_ways (unbound h i) l.1 (rw (sound.beyond i (omega arith)) (eq-eqb i i refl)))

  way_falls : (i j : ℕ) → Way h i j → rank j < rank i
  way_falls i j (step l) = rank_falls i j l
  way_falls i j (more {j = k} l w) = let a = rank_falls i k l in let b = way_falls k j w in omega arith

  pub reads_acyclic : Acyclic h
  reads_acyclic i w = let a = way_falls i i w in omega arith
