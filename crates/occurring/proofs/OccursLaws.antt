-- A variable occurs in what a word spells exactly where it is an unbound cell that the word reaches.
use Rattle.std.proofs.Common.{◌≡◌, ℕ, zero, suc, ◌+◌, ◌<◌, ◌≤◌, Bool, true, false, cond, [], ◌∷◌, sym, refl, ap, ◌∙◌, subst, ⊎_elim, arith}
use Rattle.std.proofs.lemmas.Bool.{cases_Bool, both_ways, cond-true, cond-false, eq-eqb, eqb-true, or_cases, or_left, or_right, cases_eq}
use Rattle.cells.specs.declared.cell.Cell.{Cell}
use Rattle.cells.specs.declared.cell.Cell.TheVariants.{Reference, Pointer, Functor, Atom, Integer}
use Rattle.tables.specs.Tables.{Tables, used}
use Rattle.terms.specs.Terms.{Term, var, occurs}
use Rattle.heaps.specs.Lists.{Among, here, further}
use Rattle.heaps.specs.Leads.{Heap, heap_of, LeadsBy, unbound, is_functor}
use Rattle.heaps.specs.Spelling.{arity_of, run, spell_by, same, spell}
use Rattle.heaps.specs.Reached.{Reaches, direct, onward}
use Rattle.heaps.specs.Rules.{WordKeeps, Rules}
use Rattle.heaps.proofs.WordKinds.{unbound_is, argument_leads}
use Rattle.heaps.proofs.SpellLaws.{spell_unbound, spell_bound, spell_pointer}
use Rattle.heaps.proofs.ReachedUsed.{words_reach_used}

-- Where a variable occurs, it is an unbound cell of each set that holds what the word leads to and what its members lead to.
module _ (h : Heap) (x : ℕ) (s : ℕ → Type 0) (closed : (i j : ℕ) → s i → LeadsBy i (h i) j → s j) where
  abbrev Found : Type 0
  Found = s x × (unbound h x ≡ true)

  in_run : (r : Cell → Term) (n k : ℕ) → ((j : ℕ) → n ≤ j → j < n + k → occurs x (r (Reference j)) ≡ true → Found) → occurs x (run r n k) ≡ true → Found
  in_run r n zero below e = absurd (both_ways false refl e)
  in_run r n (suc k) below e =
      ⊎_elim (λ a. below n (omega arith) (omega arith) a) (λ b. in_run r (suc n) k (λ j low high. below j (omega arith) (omega arith)) b)
      (or_cases (occurs x (r (Reference n))) (occurs x (run r (suc n) k)) e)

  in_reference : (n : ℕ) (u : Term) → s n → (occurs x u ≡ true → Found) → occurs x (cond (unbound h n) (var n) u) ≡ true → Found
  in_reference n u m below = test (unbound h n) refl
    where
      test : (b : Bool) → unbound h n ≡ b → occurs x (cond b (var n) u) ≡ true → Found
      test true free e = subst (λ k. s k × (unbound h k ≡ true)) (eqb-true n x e) (m, free)
      test false bound e = below e

  pub in_spelled : (g i : ℕ) (w : Cell) → ((j : ℕ) → LeadsBy i w j → s j) → occurs x (spell_by same h g w) ≡ true → Found
  in_spelled zero i w starts e = absurd (both_ways false refl e)
  in_spelled (suc g) i (Reference n) starts e =
      let m = starts n (omega arith, omega arith) in in_reference n (spell_by same h g (h n)) m (in_spelled g n (h n) (λ j l. closed n j m l)) e
  in_spelled (suc g) i (Pointer n) starts e =
      let m = starts n (omega arith, omega arith) in
      in_run (spell_by same h g) (suc n) (arity_of (h n))
      (λ j low high. in_spelled g 0 (Reference j) (λ k l. subst s (let a = l.0 in let b = l.1 in omega arith) (closed n j m (argument_leads n j (h n) (omega arith) (omega arith)))))
      e
  in_spelled (suc g) i (Functor name arity) starts e = absurd (both_ways false refl e)
  in_spelled (suc g) i (Atom n) starts e = absurd (both_ways false refl e)
  in_spelled (suc g) i (Integer z) starts e = absurd (both_ways false refl e)

module _ (t : Tables) (rules : Rules t) (x : ℕ) where
  abbrev Inside : Cell → Type 0
  Inside c = occurs x (spell t.heap c) ≡ true

  -- the word that leads to cell j
  abbrev below : ℕ → Cell
  below j = cond (is_functor (heap_of t.heap j)) (Pointer j) (Reference j)

  run_has : (n k j : ℕ) → n ≤ j → j < n + k → Inside (Reference j) → occurs x (run (spell t.heap) n k) ≡ true
  run_has n zero j low high e = absurd (omega arith)
  run_has n (suc k) j low high e =
      ⊎_elim
      (λ (q : j ≡ n). or_left (occurs x (spell t.heap (Reference n))) _ (subst (λ i. Inside (Reference i)) q e))
      (λ (ne : j ≡ n → ⊥). or_right (occurs x (spell t.heap (Reference n))) _ (run_has (suc n) k j (omega arith) (omega arith) e))
      (cases_eq j n)

  -- a reference spells what its cell spells, bound or not
  reference_spells : (i : ℕ) → spell t.heap (Reference i) ≡ spell t.heap (heap_of t.heap i)
  reference_spells i =
      ⊎_elim
      (λ free. ap (spell t.heap) (sym (unbound_is (heap_of t.heap) i free)))
      (λ bound. spell_bound t rules i bound)
      (cases_Bool (unbound (heap_of t.heap) i))

  leads_has : (i j : ℕ) → i < used t → LeadsBy i (heap_of t.heap i) j → Inside (below j) → Inside (below i)
  leads_has i j lt l e = by (heap_of t.heap i) refl l
    where
      word : (c : Cell) → heap_of t.heap i ≡ c → is_functor c ≡ false → below j ≡ c → Inside (below i)
      word c is plain at =
          subst Inside (sym (cond-false (is_functor (heap_of t.heap i)) (Pointer i) (Reference i) (ap is_functor is ∙ plain)))
          (ap (occurs x) (reference_spells i) ∙ subst Inside (at ∙ sym is) e)

      by : (c : Cell) → heap_of t.heap i ≡ c → LeadsBy i c j → Inside (below i)
      by (Reference m) is q =
          let a = q.0 in
          let b = q.1 in
          let m-j : m ≡ j = omega arith in
          word (Reference m) is refl
          (cond-false (is_functor (heap_of t.heap j)) (Pointer j) (Reference j) (subst (λ k. is_functor (heap_of t.heap k) ≡ false) m-j (rules.references i m lt is).1) ∙ ap Reference (sym m-j))
      by (Pointer m) is q =
          let a = q.0 in
          let b = q.1 in
          let m-j : m ≡ j = omega arith in
          word (Pointer m) is refl
          (cond-true (is_functor (heap_of t.heap j)) (Pointer j) (Reference j) (subst (λ k. is_functor (heap_of t.heap k) ≡ true) m-j (rules.pointers i m lt is).1) ∙ ap Pointer (sym m-j))
      by (Functor name arity) is q =
          let a = q.0 in
          let b = q.1 in
          let plain = (rules.arguments i name arity j lt is (omega arith) (omega arith)).1 in
          let arg : Inside (Reference j) = subst Inside (cond-false (is_functor (heap_of t.heap j)) (Pointer j) (Reference j) plain) e in
          subst Inside (sym (cond-true (is_functor (heap_of t.heap i)) (Pointer i) (Reference i) (ap is_functor is)))
          (ap (occurs x) (spell_pointer t rules i name arity is) ∙ run_has (suc i) arity j (omega arith) (omega arith) arg)
      by (Atom n) is q = let b = q.1 in absurd (omega arith)
      by (Integer z) is q = let b = q.1 in absurd (omega arith)

  module _ (w : Cell) (keeps : WordKeeps (heap_of t.heap) (used t) w) where
    word_has : (c : Cell) → WordKeeps (heap_of t.heap) (used t) c → (j : ℕ) → LeadsBy 0 c j → Inside (below j) → Inside c
    word_has (Reference m) k j l e =
        let a = l.0 in
        let b = l.1 in
        let m-j : m ≡ j = omega arith in
        subst Inside (cond-false (is_functor (heap_of t.heap j)) (Pointer j) (Reference j) (subst (λ i. is_functor (heap_of t.heap i) ≡ false) m-j k.1) ∙ ap Reference (sym m-j)) e
    word_has (Pointer m) k j l e =
        let a = l.0 in
        let b = l.1 in
        let m-j : m ≡ j = omega arith in
        subst Inside (cond-true (is_functor (heap_of t.heap j)) (Pointer j) (Reference j) (subst (λ i. is_functor (heap_of t.heap i) ≡ true) m-j k.1) ∙ ap Pointer (sym m-j)) e
    word_has (Functor name arity) k j l e = absurd k
    word_has (Atom n) k j l e = let b = l.1 in absurd (omega arith)
    word_has (Integer z) k j l e = let b = l.1 in absurd (omega arith)

    only_word : {c : Cell} → Among c (w ∷ []) → c ≡ w
    only_word here = refl
    only_word (further m) = elim m [ ]

    reached_has : {j : ℕ} → Reaches (heap_of t.heap) (w ∷ []) j → Inside (below j) → Inside w
    reached_has (direct {w = c} {j} m l) e = word_has w keeps j (subst (λ (d : Cell). LeadsBy 0 d j) (only_word m) l) e
    reached_has (onward {i} {j} r l) e =
        reached_has r (leads_has i j (words_reach_used t rules (w ∷ []) (keeps, tt) i r) l e)

    -- An unbound cell that the word reaches occurs in what it spells,
    pub reached_occurs : Reaches (heap_of t.heap) (w ∷ []) x → unbound (heap_of t.heap) x ≡ true → Inside w
    reached_occurs r free =
        let plain : is_functor (heap_of t.heap x) ≡ false = ap is_functor (unbound_is (heap_of t.heap) x free) in
        reached_has r
        (subst Inside (sym (cond-false (is_functor (heap_of t.heap x)) (Pointer x) (Reference x) plain)) (ap (occurs x) (spell_unbound t rules x free) ∙ eq-eqb x x refl))

    -- and no other variable does.
    pub occurs_reached : Inside w → Reaches (heap_of t.heap) (w ∷ []) x × (unbound (heap_of t.heap) x ≡ true)
    occurs_reached = in_spelled (heap_of t.heap) x (Reaches (heap_of t.heap) (w ∷ [])) (λ i j r l. onward r l) (suc (used t)) 0 w (λ j l. direct here l)
