-- A chain made shorter: where a cell that refers to a bound cell takes over its word, every word spells the same and no cycle is made.
use Rattle.std.proofs.Common.{◌≡◌, ℕ, suc, ◌<◌, Bool, true, false, cond, eqb, set, sym, refl, ap, ◌∙◌, subst, ap₂, arith, length-set}
use native.Mathlib.Decide.{dec_lt}
use Rattle.std.proofs.lemmas.Bool.{both_ways, eqb-true, eq-eqb}
use Rattle.cells.specs.declared.cell.Cell.{Cell}
use Rattle.cells.specs.declared.cell.Cell.TheVariants.{Reference, Pointer, Functor, Atom, Integer}
use Rattle.tables.specs.Tables.{used}
use Rattle.terms.specs.Terms.{named, Term, var, node, nil}
use Rattle.heaps.specs.Leads.{Heap, heap_of, put, LeadsBy, refers_to, unbound, is_functor, Leads, Way, step, more, Acyclic}
use Rattle.heaps.specs.Spelling.{label_of, arity_of, run, spell_by, same}
use Rattle.heaps.specs.SpellingLaws.{Reads, SpellShorten}
use Rattle.heaps.proofs.Sound.{Sound, rules_sound, cell_keeps}
use Rattle.heaps.proofs.WordKinds.{false_of, refers_eq, head_word, word_leads}
use Rattle.heaps.proofs.Put.{heap_set, put_sound}
use Rattle.heaps.proofs.SpellLaws.{reads_by, reads_only}

module _ (h : Heap) (i n : ℕ) (refers : h i ≡ Reference n) (bound : unbound h i ≡ false) (target : unbound h n ≡ false) (word : is_functor (h n) ≡ false) where
  abbrev k : Heap
  k = put h i (h n)

  leads_target : Leads h i n
  leads_target = (subst (λ (c : Cell). LeadsBy i c n) (sym refers) (omega arith, omega arith), bound)

  leads_was : (a j : ℕ) → Leads k a j → Way h a j
  leads_was a j l = test (eqb a i) refl l.0 l.1
    where
      test : (b : Bool) → eqb a i ≡ b → LeadsBy a (cond b (h n) (h a)) j → refers_to a (cond b (h n) (h a)) ≡ false → Way h a j
      test true e o u = subst (λ (x : ℕ). Way h x j) (sym (eqb-true a i e)) (more leads_target (step (word_leads a n j (h n) word o, target)))
      test false e o u = step (o, u)

  way_was : (a j : ℕ) → Way k a j → Way h a j
  way_was a j (step l) = leads_was a j l
  way_was a j (more {j = p} l w) = join (leads_was a p l) (way_was p j w)
    where
      join : {x y z : ℕ} → Way h x y → Way h y z → Way h x z
      join (step o) v = more o v
      join (more o u) v = more o (join u v)

  pub shorten_acyclic : Acyclic h → Acyclic k
  shorten_acyclic a j w = a j (way_was j j w)

  -- the target does not refer back
  apart : Acyclic h → refers_to i (h n) ≡ false
  apart a = false_of _ (λ e. a i (more leads_target (step (subst (λ (c : Cell). LeadsBy n c i) (sym (refers_eq i (h n) e)) (omega arith, omega arith), target))))

  pub shorten_reads : Acyclic h → (s : Cell → Term) → Reads same h s → Reads same k s
  shorten_reads a s r (Reference j) = r (Reference j) ∙ test (eqb j i) refl
    where
      here : s (h i) ≡ s (h n)
      here = ap s refers ∙ r (Reference n) ∙ ap (λ (b : Bool). cond b (var n) (s (h n))) target

      test : (b : Bool) → eqb j i ≡ b → cond (unbound h j) (var j) (s (h j)) ≡ cond (refers_to j (cond b (h n) (h j))) (var j) (s (cond b (h n) (h j)))
      test true p = let q = eqb-true j i p in rw q (rw (bound, apart a) here)
      test false p = refl
  shorten_reads a s r (Pointer j) = r (Pointer j) ∙ test (eqb j i) refl
    where
      head : (c : Cell) → is_functor c ≡ false → node (label_of c) (run s (suc j) (arity_of c)) ≡ node (named 0) nil
      head c p = let e = head_word c p in ap₂ (λ l m. node l (run s (suc j) m)) e.0 e.1

      test : (b : Bool) → eqb j i ≡ b → node (label_of (h j)) (run s (suc j) (arity_of (h j))) ≡ node (label_of (cond b (h n) (h j))) (run s (suc j) (arity_of (cond b (h n) (h j))))
      test true p = head (h j) (ap is_functor (ap h (eqb-true j i p) ∙ refers)) ∙ sym (head (h n) word)
      test false p = refl
  shorten_reads a s r (Functor name arity) = r (Functor name arity)
  shorten_reads a s r (Atom a') = r (Atom a')
  shorten_reads a s r (Integer z) = r (Integer z)

-- a bound cell is in use
pub bound_used : (h : Heap) (n : ℕ) → Sound h n → (i : ℕ) → unbound h i ≡ false → i < n
bound_used h n sound i e = test (dec_lt i n)
  where
    test : Dec (i < n) → i < n
    test (yes p) = p
    test (no p) = absurd (both_ways (unbound h i) e (rw (sound.beyond i (omega arith)) (eq-eqb i i refl)))

module _ (h : Heap) (m : ℕ) (sound : Sound h m) (acyclic : Acyclic h) (i n : ℕ) (refers : h i ≡ Reference n) (bound : unbound h i ≡ false) (target : unbound h n ≡ false) where
  word : is_functor (h n) ≡ false
  word = (sound.references i n (bound_used h m sound i bound) refers).1

  pub shorten_sound : Sound (put h i (h n)) m
  shorten_sound =
      put_sound h m i (h n) sound (bound_used h m sound i bound) (ap is_functor refers) (cell_keeps h m sound n (bound_used h m sound n target) word)

  pub shorten_spells : (c : Cell) → spell_by same (put h i (h n)) (suc m) c ≡ spell_by same h (suc m) c
  shorten_spells c = sym (reads_only (put h i (h n)) m shorten_sound (shorten_acyclic h i n refers bound target word acyclic) same (spell_by same h (suc m))
      (shorten_reads h i n refers bound target word acyclic (spell_by same h (suc m)) (reads_by h m sound acyclic same)) c)

pub spell_shorten : SpellShorten
spell_shorten t i n r refers bound target = (
  rw set_is (shorten_acyclic h i n refers bound target (word h (used t) (rules_sound t r) r.acyclic i n refers bound target) r.acyclic),
  λ c. ap₂ (λ (g : Heap) (m : ℕ). spell_by same g (suc m) c) set_is (length-set t.heap i (h n))
      ∙ shorten_spells h (used t) (rules_sound t r) r.acyclic i n refers bound target c,
)
  where
    h : Heap
    h = heap_of t.heap

    set_is : heap_of (set t.heap i (h n)) ≡ put h i (h n)
    set_is = heap_set t.heap i (h n) (bound_used h (used t) (rules_sound t r) i bound)
