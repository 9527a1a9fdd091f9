-- Where cells are moved, words spell the same terms with the variables renamed, and no cycle is made.
use Rattle.std.proofs.Common.{◌≡◌, ℕ, zero, suc, ◌+◌, ◌-◌, ◌<◌, ◌≤◌, Bool, true, false, cond, eqb, sym, refl, ap, ◌∙◌, subst, ap₂, arith}
use Rattle.std.proofs.lemmas.Bool.{eqb-true, eqb-false, eq-eqb, ne_eqb}
use Rattle.cells.specs.declared.cell.Cell.{Cell}
use Rattle.cells.specs.declared.cell.Cell.TheVariants.{Reference, Pointer, Functor, Atom, Integer}
use Rattle.tables.specs.Tables.{used}
use Rattle.terms.specs.Terms.{Term, var, node, cons}
use Rattle.terms.specs.Renamings.{rename}
use Rattle.heaps.specs.Leads.{Heap, heap_of, LeadsBy, refers_to, unbound, is_functor, Leads, Way, step, more, Acyclic, relocate}
use Rattle.heaps.specs.Spelling.{label_of, arity_of, run, spell_by, same}
use Rattle.heaps.specs.Moving.{Moves}
use Rattle.heaps.specs.SpellingLaws.{SpellMoved, AcyclicMoved}
use Rattle.heaps.proofs.WordKinds.{word_leads, argument_leads}
use Rattle.heaps.proofs.SpellLaws.{spell_more}

head_moved : (f : ℕ → ℕ) (c : Cell) → (label_of (relocate f c) ≡ label_of c) × (arity_of (relocate f c) ≡ arity_of c)
head_moved f (Reference n) = (refl, refl)
head_moved f (Pointer n) = (refl, refl)
head_moved f (Functor name arity) = (refl, refl)
head_moved f (Atom a) = (refl, refl)
head_moved f (Integer z) = (refl, refl)

module _ (R : ℕ → Type 0) (f : ℕ → ℕ) (h k : Heap) (m : Moves R f h k) where
  -- all that the word leads to is moved; a functor spells nothing where it stands as a word
  abbrev Inside : Cell → Type 0
  Inside c = is_functor c ≡ false → (j : ℕ) → LeadsBy 0 c j → R j

  refers_moved : (i : ℕ) → R i → (c : Cell) → h i ≡ c → refers_to (f i) (relocate f c) ≡ refers_to i c
  refers_moved i r (Reference n) e = test (eqb n i) refl
    where
      rn : R n
      rn = m.closed i n r (subst (λ (c : Cell). LeadsBy i c n) (sym e) (omega arith, omega arith))

      test : (b : Bool) → eqb n i ≡ b → eqb (f n) (f i) ≡ b
      test true p = eq-eqb (f n) (f i) (ap f (eqb-true n i p))
      test false p = ne_eqb (f n) (f i) (λ q. eqb-false n i p (m.apart n i rn r q))
  refers_moved i r (Pointer n) e = refl
  refers_moved i r (Functor name arity) e = refl
  refers_moved i r (Atom a) e = refl
  refers_moved i r (Integer z) e = refl

  pub unbound_moved : (i : ℕ) → R i → unbound k (f i) ≡ unbound h i
  unbound_moved i r = ap (refers_to (f i)) (m.arrives i r) ∙ refers_moved i r (h i) refl

  run_moved : (s q : Cell → Term) (n a : ℕ) → ((j : ℕ) → n ≤ j → j < n + a → s (Reference (f j)) ≡ rename f (q (Reference j)))
      → (n' : ℕ) → ((d : ℕ) → d < a → f (n + d) ≡ n' + d) → run s n' a ≡ rename f (run q n a)
  run_moved s q n zero g n' e = refl
  run_moved s q n (suc a) g n' e = ap₂ cons
      (ap (λ (i : ℕ). s (Reference i)) first ∙ g n (omega arith) (omega arith))
      (run_moved s q (suc n) a (λ j p r. g j (omega arith) (omega arith)) (suc n')
      (λ d lt. let p = e (suc d) (omega arith) in let y : f (suc n + d) ≡ f (n + suc d) = ap f (omega arith) in omega arith))
    where
      first : n' ≡ f n
      first = let p = e 0 (omega arith) in let y : f (n + 0) ≡ f n = ap f (omega arith) in omega arith

  -- layer for layer, so nothing need be known of cycles
  pub spell_by_moved : (g : ℕ) (c : Cell) → Inside c → spell_by same k g (relocate f c) ≡ rename f (spell_by same h g c)
  spell_by_moved zero c i = refl
  spell_by_moved (suc g) (Reference n) i = ap₂ (λ (b : Bool) (t : Term). cond b (var (f n)) t)
      (unbound_moved n r)
      (ap (spell_by same k g) (m.arrives n r) ∙ spell_by_moved g (h n) (λ e j l. m.closed n j r (word_leads 0 n j (h n) e l)))
      ∙ under (unbound h n) (spell_by same h g (h n))
    where
      r : R n
      r = i refl n (omega arith, omega arith)

      under : (b : Bool) (t : Term) → cond b (var (f n)) (rename f t) ≡ rename f (cond b (var n) t)
      under true t = refl
      under false t = refl
  spell_by_moved (suc g) (Pointer n) i = let e = head_moved f (h n) in ap₂ node (ap label_of (m.arrives n r) ∙ e.0)
      (ap (run (spell_by same k g) (suc (f n))) (ap arity_of (m.arrives n r) ∙ e.1)
      ∙ run_moved (spell_by same k g) (spell_by same h g) (suc n) (arity_of (h n)) (λ j p q. spell_by_moved g (Reference j) (argument j p q)) (suc (f n)) after)
    where
      r : R n
      r = i refl n (omega arith, omega arith)

      argument : (j : ℕ) → suc n ≤ j → j < suc n + arity_of (h n) → Inside (Reference j)
      argument j p q e l o = subst R (let z : j ≡ l = omega arith in z) (m.closed n j r (argument_leads n j (h n) (omega arith) (omega arith)))

      after : (d : ℕ) → d < arity_of (h n) → f (suc n + d) ≡ suc (f n) + d
      after d lt = let y : f (suc n + d) ≡ f (n + suc d) = ap f (omega arith) in let z = m.neighbours n (suc d) r (omega arith) in omega arith
  spell_by_moved (suc g) (Functor name arity) i = refl
  spell_by_moved (suc g) (Atom a) i = refl
  spell_by_moved (suc g) (Integer z) i = refl

  -- what a moved cell leads to is what it led to, moved
  leads_back : (i j : ℕ) → R i → LeadsBy (f i) (k (f i)) j → (l : ℕ) × LeadsBy i (h i) l × (f l ≡ j)
  leads_back i j r l = by (h i) refl (subst (λ (c : Cell). LeadsBy (f i) c j) (m.arrives i r) l)
    where
      by : (c : Cell) → h i ≡ c → LeadsBy (f i) (relocate f c) j → (l : ℕ) × LeadsBy i c l × (f l ≡ j)
      by (Reference n) e o = (n, (omega arith, omega arith), omega arith)
      by (Pointer n) e o = (n, (omega arith, omega arith), omega arith)
      by (Functor name arity) e o =
          let a : arity_of (h i) ≡ arity = ap arity_of e in let p = o.0 in let q = o.1 in
          let z = m.neighbours i (j - f i) r (omega arith) in
          (i + (j - f i), (omega arith, omega arith), omega arith)
      by (Atom a) e o = absurd (omega arith)
      by (Integer z) e o = absurd (omega arith)

  leads_was : (i q j : ℕ) → R i → f i ≡ q → Leads k q j → (l : ℕ) × R l × (f l ≡ j) × Leads h i l
  leads_was i q j r e o =
      let p : Leads k (f i) j = subst (λ (x : ℕ). Leads k x j) (sym e) o in let b = leads_back i j r p.0 in
      (b.0, m.closed i b.0 r b.1, b.2, (b.1, sym (unbound_moved i r) ∙ p.1))

  way_was : (i q j : ℕ) → R i → f i ≡ q → Way k q j → (l : ℕ) × R l × (f l ≡ j) × Way h i l
  way_was i q j r e (step o) = let b = leads_was i q j r e o in (b.0, b.1, b.2, step b.3)
  way_was i q j r e (more {j = p} o w) =
      let b = leads_was i q p r e o in let d = way_was b.0 p j b.1 b.2 w in (d.0, d.1, d.2, more b.3 d.3)

  pub moved_acyclic : Acyclic h → ((j : ℕ) → unbound k j ≡ false → (i : ℕ) × R i × (f i ≡ j)) → Acyclic k
  moved_acyclic a from j w =
      let b = from j (starts w) in let d = way_was b.0 j j b.1 b.2 w in
      a b.0 (subst (Way h b.0) (m.apart d.0 b.0 d.1 b.1 (d.2 ∙ sym b.2)) d.3)
    where
      starts : {i l : ℕ} → Way k i l → unbound k i ≡ false
      starts (step o) = o.1
      starts (more o v) = o.1

pub acyclic_moved : AcyclicMoved
acyclic_moved s f h k m a from = moved_acyclic (λ i. s i ≡ true) f h k m a from

pub spell_moved : SpellMoved
spell_moved t u s f r q m w inside =
    sym (spell_more u q g (omega arith) (relocate f w)) ∙ spell_by_moved (λ i. s i ≡ true) f (heap_of t.heap) (heap_of u.heap) m g w (λ e. inside)
    ∙ ap (rename f) (spell_more t r g (omega arith) w)
  where
    g : ℕ
    g = suc (used t + used u)
