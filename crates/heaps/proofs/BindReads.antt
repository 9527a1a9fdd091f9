-- In the heap with an unbound cell x changed to the word c, every word reads as before with variable x replaced by what c spells.
use Rattle.std.proofs.Common.{◌≡◌, ℕ, zero, suc, Bool, true, false, cond, ◌||◌, eqb, sym, refl, ap, ◌∙◌, ap₂}
use Rattle.std.proofs.lemmas.Bool.{eqb-true}
use Rattle.cells.specs.declared.cell.Cell.{Cell}
use Rattle.cells.specs.declared.cell.Cell.TheVariants.{Reference, Pointer, Functor, Atom, Integer}
use Rattle.terms.specs.Terms.{Term, var, node, cons, apply, occurs, only}
use Rattle.terms.proofs.TermLaws.{only_absent, only_self}
use Rattle.heaps.specs.Leads.{Heap, put, refers_to, unbound, is_functor}
use Rattle.heaps.specs.Spelling.{label_of, arity_of, run, spell_by, same}
use Rattle.heaps.specs.SpellingLaws.{Reads}
use Rattle.heaps.proofs.WordKinds.{unbound_is, head_word}
use Rattle.heaps.proofs.Ranks.{marked}

pub run_apply : (σ : ℕ → Term) (s : Cell → Term) (n k : ℕ) → apply σ (run s n k) ≡ run (λ d. apply σ (s d)) n k
run_apply σ s n zero = refl
run_apply σ s n (suc k) = ap (cons (apply σ (s (Reference n)))) (run_apply σ s (suc n) k)

-- v goes together with substitution
module _ (v : Term → Term) (nat : (σ : ℕ → Term) (t : Term) → apply σ (v t) ≡ v (apply σ t)) (h : Heap) (s : Cell → Term) (reads : Reads v h s)
    (x : ℕ) (free : unbound h x ≡ true) (c : Cell) (word : is_functor c ≡ false) (absent : occurs x (v (s c)) ≡ false) (apart : refers_to x c ≡ false) where
  abbrev o : ℕ → Term
  o = only x (v (s c))

  abbrev after : Cell → Term
  after d = apply o (s d)

  reads_x : s (Reference x) ≡ var x
  reads_x = reads (Reference x) ∙ rw free

  kept_c : v (after c) ≡ v (s c)
  kept_c = sym (nat o (s c)) ∙ only_absent x (v (s c)) (v (s c)) absent

  pub bind_reads : Reads v (put h x c) after
  bind_reads (Reference n) = test (eqb n x) refl
    where
      free_n : (b : Bool) → eqb n x ≡ false → apply o (cond b (var n) (v (s (h n)))) ≡ cond b (var n) (v (after (h n)))
      free_n true e = rw e
      free_n false e = nat o (s (h n))

      test : (b : Bool) → eqb n x ≡ b → after (Reference n) ≡ cond (refers_to n (cond b c (h n))) (var n) (v (after (cond b c (h n))))
      test true e = let p = eqb-true n x e in rw p (ap (apply o) reads_x ∙ only_self x (v (s c)) ∙ sym kept_c ∙ sym (ap (λ (b : Bool). cond b (var x) (v (after c))) apart))
      test false e = ap (apply o) (reads (Reference n)) ∙ free_n (unbound h n) e
  bind_reads (Pointer n) = test (eqb n x) refl
    where
      test : (b : Bool) → eqb n x ≡ b → after (Pointer n) ≡ node (label_of (cond b c (h n))) (run after (suc n) (arity_of (cond b c (h n))))
      test true e = let p = eqb-true n x e in rw p (let a = head_word c word in let b = head_word (h x) (rw (unbound_is h x free)) in
          ap (apply o) (reads (Pointer x)) ∙ rw (a.0, a.1, b.0, b.1))
      test false e = ap (apply o) (reads (Pointer n)) ∙ ap (node (label_of (h n))) (run_apply o s (suc n) (arity_of (h n)))
  bind_reads (Functor f a) = ap (apply o) (reads (Functor f a))
  bind_reads (Atom a) = ap (apply o) (reads (Atom a))
  bind_reads (Integer z) = ap (apply o) (reads (Integer z))

run_occurs : (x : ℕ) (r q : Cell → Term) → ((d : Cell) → occurs x (r d) ≡ occurs x (q d)) → (n k : ℕ) → occurs x (run r n k) ≡ occurs x (run q n k)
run_occurs x r q f n zero = refl
run_occurs x r q f n (suc k) = ap₂ ◌||◌ (f (Reference n)) (run_occurs x r q f (suc n) k)

pub or_false_right : (b : Bool) → (b || false) ≡ b
or_false_right true = refl
or_false_right false = refl

-- marking the steps along references leaves the variables as they are
pub occurs_marked : (h : Heap) (x g : ℕ) (c : Cell) → occurs x (spell_by marked h g c) ≡ occurs x (spell_by same h g c)
occurs_marked h x zero c = refl
occurs_marked h x (suc g) (Reference n) = test (unbound h n) (occurs_marked h x g (h n))
  where
    test : (b : Bool) → occurs x (spell_by marked h g (h n)) ≡ occurs x (spell_by same h g (h n))
        → occurs x (cond b (var n) (marked (spell_by marked h g (h n)))) ≡ occurs x (cond b (var n) (spell_by same h g (h n)))
    test true e = refl
    test false e = or_false_right _ ∙ e
occurs_marked h x (suc g) (Pointer n) = run_occurs x (spell_by marked h g) (spell_by same h g) (occurs_marked h x g) (suc n) (arity_of (h n))
occurs_marked h x (suc g) (Functor f a) = refl
occurs_marked h x (suc g) (Atom a) = refl
occurs_marked h x (suc g) (Integer z) = refl
