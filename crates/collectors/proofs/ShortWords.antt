-- A shortened word: it may stand where the word may, it leads to where the word's chain leads, and it is no reference to a cell
-- whose own chain it shortens.
use Rattle.std.proofs.Common.{◌≡◌, ℕ, zero, suc, ◌<◌, Bool, true, false, cond, ◌||◌, ◌⊎◌, sym, refl, ap, ◌∙◌, subst, inl, inr, ⊎_elim, arith}
use Rattle.std.proofs.lemmas.Bool.{both_ways, eqb-true, eq-eqb}
use Rattle.cells.specs.declared.cell.Cell.{Cell}
use Rattle.cells.specs.declared.cell.Cell.TheVariants.{Reference, Pointer, Functor, Atom, Integer}
use Rattle.cells.specs.Cells.{in_range}
use Rattle.tables.specs.Tables.{Tables, used}
use Rattle.terms.specs.Terms.{named}
use Rattle.heaps.specs.Lists.{is_in}
use Rattle.heaps.specs.Leads.{Heap, heap_of, LeadsBy, Leads, Way, step, more, unbound, refers_to, is_functor}
use Rattle.heaps.specs.Spelling.{label_of, arity_of}
use Rattle.heaps.specs.Rules.{WordKeeps}
use Rattle.heaps.specs.LevelLaws.{Stands}
use Rattle.heaps.proofs.Sound.{rules_sound, cell_keeps}
use Rattle.heaps.proofs.KeptWords.{cell_ranged}
use Rattle.collectors.specs.Shortening.{short_by, short}

-- a word that may stand in a register is no functor
pub word_label : (h : Heap) (n : ℕ) (w : Cell) → WordKeeps h n w → (label_of w ≡ named 0) × (arity_of w ≡ 0) × (is_functor w ≡ false)
word_label h n (Reference m) k = (refl, refl, refl)
word_label h n (Pointer m) k = (refl, refl, refl)
word_label h n (Functor name arity) k = absurd k
word_label h n (Atom a) k = (refl, refl, refl)
word_label h n (Integer z) k = (refl, refl, refl)

-- such a word leads to the same cells wherever it stands
pub leads_anywhere : (h : Heap) (n i k : ℕ) (w : Cell) → WordKeeps h n w → (j : ℕ) → LeadsBy i w j → LeadsBy k w j
leads_anywhere h n i k (Reference m) w j l = l
leads_anywhere h n i k (Pointer m) w j l = l
leads_anywhere h n i k (Functor name arity) w j l = absurd w
leads_anywhere h n i k (Atom a) w j l = l
leads_anywhere h n i k (Integer z) w j l = l

module _ (t : Tables) (st : Stands t) where
  abbrev h : Heap
  h = heap_of t.heap

  abbrev Word : Cell → Type 0
  Word = WordKeeps (heap_of t.heap) (used t)

  abbrev s : ℕ → Cell → Cell
  s g w = short_by g (heap_of t.heap) t.trail w

  pub target_keeps : (m : ℕ) → Word (Reference m) → Word (h m)
  target_keeps m k = cell_keeps h (used t) (rules_sound t st.0) m k.0 k.1

  -- What passes from a reference to the word of its target passes to the shortened word.
  pub short_passes : (P : Cell → Type 0) → ((m : ℕ) → Word (Reference m) → unbound h m ≡ false → is_in m t.trail ≡ false → P (Reference m) → P (h m))
      → (g : ℕ) (w : Cell) → Word w → P w → P (s g w)
  short_passes P on zero w k p = p
  short_passes P on (suc g) (Reference m) k p = by (unbound h m) refl (is_in m t.trail) refl (short_passes P on g (h m) (target_keeps m k))
    where
      by : (a : Bool) → unbound h m ≡ a → (b : Bool) → is_in m t.trail ≡ b → (P (h m) → P (s g (h m))) → P (cond (a || b) (Reference m) (s g (h m)))
      by true e b f rest = p
      by false e true f rest = p
      by false e false f rest = rest (on m k e f p)
  short_passes P on (suc g) (Pointer m) k p = p
  short_passes P on (suc g) (Functor name arity) k p = p
  short_passes P on (suc g) (Atom a) k p = p
  short_passes P on (suc g) (Integer z) k p = p

  pub short_keeps : (w : Cell) → Word w → Word (short t w)
  short_keeps w k = short_passes Word (λ m k' e f p. target_keeps m k') (used t) w k k

  pub short_ranged : (w : Cell) → Word w → in_range w ≡ true → in_range (short t w) ≡ true
  short_ranged w k e = short_passes (λ x. in_range x ≡ true) (λ m k' a b p. cell_ranged t st.1 m k'.0) (used t) w k e

  -- where the shortened word leads, the word leads, or the chain of a cell to which it leads
  abbrev Leading : Cell → Cell → Type 0
  Leading w x = (j : ℕ) → LeadsBy 0 x j → LeadsBy 0 w j ⊎ ((y : ℕ) × LeadsBy 0 w y × Way h y j)

  pub short_leads : (w : Cell) → Word w → Leading w (short t w)
  short_leads w k = short_passes (Leading w) on (used t) w k (λ j l. inl l)
    where
      on : (m : ℕ) → Word (Reference m) → unbound h m ≡ false → is_in m t.trail ≡ false → Leading w (Reference m) → Leading w (h m)
      on m k' e f lead j l =
          let one : Leads h m j = (leads_anywhere h (used t) 0 m (h m) (target_keeps m k') j l, e) in
          ⊎_elim (λ (p : LeadsBy 0 w m). inr (m, p, step one)) (λ (p : (y : ℕ) × LeadsBy 0 w y × Way h y m). inr (p.0, p.1, way_on p.2 one)) (lead m (omega arith, omega arith))
        where
          way_on : {y z : ℕ} → Way h y m → Leads h m z → Way h y z
          way_on (step a) b = more a (step b)
          way_on (more a w') b = more a (way_on w' b)

  -- an unbound cell stays as it is, and no bound cell becomes unbound
  pub short_self : (n : ℕ) → n < used t → refers_to n (short t (h n)) ≡ refers_to n (h n)
  short_self n lt = by (h n) refl
    where
      way_to : (m : ℕ) → h n ≡ Reference m → unbound h n ≡ false → refers_to n (short t (Reference m)) ≡ true → ⊥
      way_to m e b q =
          let k : Word (Reference m) = st.0.references n m lt e in
          let first : Leads h n m = (subst (λ (c : Cell). LeadsBy n c m) (sym e) (omega arith, omega arith), b) in
          let there = short_leads (Reference m) k n (refers_leads (short t (Reference m)) q) in
          ⊎_elim
          (λ (p : LeadsBy 0 (Reference m) n). let a = p.0 in let c = p.1 in let z : m ≡ n = omega arith in
          both_ways (unbound h n) b (ap (refers_to n) e ∙ eq-eqb m n z))
          (λ (p : (y : ℕ) × LeadsBy 0 (Reference m) y × Way h y n). let a = p.1.0 in let c = p.1.1 in
          st.0.acyclic n (more first (subst (λ y. Way h y n) (let z : p.0 ≡ m = omega arith in z) p.2)))
          there
        where
          refers_leads : (c : Cell) → refers_to n c ≡ true → LeadsBy 0 c n
          refers_leads (Reference x) r = let z = eqb-true x n r in (omega arith, omega arith)
          refers_leads (Pointer x) r = absurd (both_ways false refl r)
          refers_leads (Functor name arity) r = absurd (both_ways false refl r)
          refers_leads (Atom a) r = absurd (both_ways false refl r)
          refers_leads (Integer z) r = absurd (both_ways false refl r)

      free : (g : ℕ) → unbound h n ≡ true → s g (Reference n) ≡ Reference n
      free zero e = refl
      free (suc g) e = ap (λ b. cond (b || is_in n t.trail) (Reference n) (s g (h n))) e

      other : (g : ℕ) (c : Cell) → ((m : ℕ) → c ≡ Reference m → ⊥) → s g c ≡ c
      other zero c ne = refl
      other (suc g) (Reference m) ne = absurd (ne m refl)
      other (suc g) (Pointer m) ne = refl
      other (suc g) (Functor name arity) ne = refl
      other (suc g) (Atom a) ne = refl
      other (suc g) (Integer z) ne = refl

      by : (c : Cell) → h n ≡ c → refers_to n (short t (h n)) ≡ refers_to n (h n)
      by (Reference m) e = test (unbound h n) refl (refers_to n (short t (h n))) refl
        where
          test : (a : Bool) → unbound h n ≡ a → (b : Bool) → refers_to n (short t (h n)) ≡ b → refers_to n (short t (h n)) ≡ refers_to n (h n)
          test true u b q =
              let z : m ≡ n = eqb-true m n (sym (ap (refers_to n) e) ∙ u) in
              ap (λ (c : Cell). refers_to n (short t c)) (e ∙ ap Reference z) ∙ ap (refers_to n) (free (used t) u) ∙ eq-eqb n n refl ∙ sym u
          test false u true q = absurd (way_to m e u (ap (λ (c : Cell). refers_to n (short t c)) (sym e) ∙ q))
          test false u false q = q ∙ sym u
      by (Pointer m) e = ap (refers_to n) (other (used t) (h n) (λ x q. let z : ◌≡◌ {A = ℕ} 0 1 = cc in omega arith))
      by (Functor name arity) e = ap (refers_to n) (other (used t) (h n) (λ x q. let z : ◌≡◌ {A = ℕ} 0 1 = cc in omega arith))
      by (Atom a) e = ap (refers_to n) (other (used t) (h n) (λ x q. let z : ◌≡◌ {A = ℕ} 0 1 = cc in omega arith))
      by (Integer y) e = ap (refers_to n) (other (used t) (h n) (λ x q. let z : ◌≡◌ {A = ℕ} 0 1 = cc in omega arith))

  -- a functor stays, and nothing becomes one
  pub short_functor : (g name arity : ℕ) → s g (Functor name arity) ≡ Functor name arity
  short_functor zero name arity = refl
  short_functor (suc g) name arity = refl

  pub short_kind : (n : ℕ) → n < used t → (label_of (short t (h n)) ≡ label_of (h n)) × (arity_of (short t (h n)) ≡ arity_of (h n)) × (is_functor (short t (h n)) ≡ is_functor (h n))
  short_kind n lt = by (is_functor (h n)) refl (h n) refl
    where
      word : is_functor (h n) ≡ false → (label_of (short t (h n)) ≡ label_of (h n)) × (arity_of (short t (h n)) ≡ arity_of (h n)) × (is_functor (short t (h n)) ≡ is_functor (h n))
      word e =
          let k = cell_keeps h (used t) (rules_sound t st.0) n lt e in
          let a = word_label h (used t) (h n) k in
          let b = word_label h (used t) (short t (h n)) (short_keeps (h n) k) in
          (b.0 ∙ sym a.0, b.1 ∙ sym a.1, b.2 ∙ sym a.2)

      by : (b : Bool) → is_functor (h n) ≡ b → (c : Cell) → h n ≡ c → (label_of (short t (h n)) ≡ label_of (h n)) × (arity_of (short t (h n)) ≡ arity_of (h n)) × (is_functor (short t (h n)) ≡ is_functor (h n))
      by false e c q = word e
      by true e (Functor name arity) q =
          let same : short t (h n) ≡ h n = ap (short t) q ∙ short_functor (used t) name arity ∙ sym q in
          (ap label_of same, ap arity_of same, ap is_functor same)
      by true e (Reference m) q = absurd (both_ways (is_functor (h n)) (ap is_functor q) e)
      by true e (Pointer m) q = absurd (both_ways (is_functor (h n)) (ap is_functor q) e)
      by true e (Atom a) q = absurd (both_ways (is_functor (h n)) (ap is_functor q) e)
      by true e (Integer z) q = absurd (both_ways (is_functor (h n)) (ap is_functor q) e)
