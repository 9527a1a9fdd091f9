-- The rules hold again after undoing to the newest choice point.
use Rattle.std.proofs.Common.{◌≡◌, ℕ, ◌<◌, ◌≤◌, Bool, true, false, cond, ◌⊎◌, List, [], ◌∷◌, length, drop, sym, refl, ap, ◌∙◌, subst, inl, inr, arith}
use Rattle.std.proofs.lemmas.List.{take-take}
use Rattle.std.proofs.lemmas.Bool.{eq-eqb, both_ways, cases_lt}
use Rattle.cells.specs.declared.cell.Cell.{Cell}
use Rattle.cells.specs.declared.cell.Cell.TheVariants.{Reference, Pointer, Functor, Atom, Integer}
use Rattle.tables.specs.Tables.{Choice, Tables, used}
use Rattle.heaps.specs.Lists.{Each, is_in}
use Rattle.heaps.specs.Leads.{Heap, heap_of, LeadsBy, refers_to, unbound, is_functor, Leads, Way, step, more}
use Rattle.heaps.specs.Levels.{seen_from, back_to, last_of, last}
use Rattle.heaps.specs.Rules.{ReferencesLead, PointersLead, ArgumentsStand, WordKeeps, EntryNames, TopsFall, Closed, Rules}
use Rattle.heaps.proofs.EachLaws.{each_two, each_take, each_in, is_in_from_drop, different_take, taken_apart}
use Rattle.heaps.proofs.UnbindLaws.{undone, heap_of_unbind_all, heap_of_take, heap_of_past}
use Rattle.heaps.proofs.CutLaws.{Under, tops_under, seen_older, length_back, falls_back}

abbrev SavedKeep : Tables → Choice → Type 0
SavedKeep t d = Each (WordKeeps (heap_of t.heap) (used t)) d.saved

-- Back to a choice point c of t whose level is closed, with choice points ds that are not newer than c.
module _ (t : Tables) (c : Choice) (ds : List Choice) (r : Rules t)
    (h : c.heap_top ≤ used t) (k : c.trail_top ≤ length t.trail) (closed : Closed t.heap t.trail c) (keep : SavedKeep t c)
    (fall : TopsFall c.heap_top c.trail_top ds) (keeps : Each (SavedKeep t) ds) (levels : Each (Closed t.heap t.trail) ds) where
  abbrev gone : List ℕ
  gone = drop c.trail_top t.trail

  abbrev s : Tables
  s = back_to c ds t

  abbrev old : Heap
  old = heap_of t.heap

  abbrev new : Heap
  new = heap_of s.heap

  used_is : used s ≡ c.heap_top
  used_is = length_back t c ds h

  cell_is : (i : ℕ) → i < c.heap_top → new i ≡ undone t.heap gone i
  cell_is i lt = heap_of_take c.heap_top (seen_from c t.heap t.trail) i lt ∙ heap_of_unbind_all t.heap gone i

  kind_is : (i : ℕ) → i < c.heap_top → is_functor (new i) ≡ is_functor (old i)
  kind_is i lt = ap is_functor (cell_is i lt) ∙ test (is_in i gone) refl
    where
      test : (b : Bool) → is_in i gone ≡ b → is_functor (cond b (Reference i) (old i)) ≡ is_functor (old i)
      test true p = sym (each_in (EntryNames old (used t)) t.trail i r.trail.1 (is_in_from_drop i c.trail_top t.trail p)).2
      test false p = refl

  -- a cell is unbound now, or as it was
  either : (i : ℕ) → i < c.heap_top → (new i ≡ Reference i) ⊎ (new i ≡ old i)
  either i lt = test (is_in i gone) (cell_is i lt)
    where
      test : (b : Bool) → new i ≡ cond b (Reference i) (old i) → (new i ≡ Reference i) ⊎ (new i ≡ old i)
      test true p = inl p
      test false p = inr p

  below : (i j : ℕ) → i < used s → LeadsBy i (new i) j → j < c.heap_top
  below i j lt l = let u = used_is in closed.below i j (omega arith)
      (subst (λ (w : Cell). LeadsBy i w j) (heap_of_take c.heap_top (seen_from c t.heap t.trail) i (omega arith)) l)

  references : ReferencesLead new (used s)
  references i m lt q = by (either i (let u = used_is in omega arith)) (below i m lt (subst (λ (w : Cell). LeadsBy i w m) (sym q) (omega arith, omega arith)))
    where
      by : (new i ≡ Reference i) ⊎ (new i ≡ old i) → m < c.heap_top → (m < used s) × (is_functor (new m) ≡ false)
      by (inl p) low = let u = used_is in let e : i ≡ m = cc in (omega arith, subst (λ (j : ℕ). is_functor (new j) ≡ false) e (ap is_functor p))
      by (inr p) low = let u = used_is in (omega arith, kind_is m low ∙ (r.references i m (omega arith) (sym p ∙ q)).1)

  pointers : PointersLead new (used s)
  pointers i m lt q = by (either i (let u = used_is in omega arith)) (below i m lt (subst (λ (w : Cell). LeadsBy i w m) (sym q) (omega arith, omega arith)))
    where
      by : (new i ≡ Reference i) ⊎ (new i ≡ old i) → m < c.heap_top → (m < used s) × (is_functor (new m) ≡ true)
      by (inl p) low = absurd (let z : ◌≡◌ {A = ℕ} 0 1 = cc in omega arith)
      by (inr p) low = let u = used_is in (omega arith, kind_is m low ∙ (r.pointers i m (omega arith) (sym p ∙ q)).1)

  arguments : ArgumentsStand new (used s)
  arguments i name arity j lt q x y = by (either i (let u = used_is in omega arith)) (below i j lt (subst (λ (w : Cell). LeadsBy i w j) (sym q) (omega arith, omega arith)))
    where
      by : (new i ≡ Reference i) ⊎ (new i ≡ old i) → j < c.heap_top → (j < used s) × (is_functor (new j) ≡ false)
      by (inl p) low = absurd (let z : ◌≡◌ {A = ℕ} 0 1 = cc in omega arith)
      by (inr p) low = let u = used_is in (omega arith, kind_is j low ∙ (r.arguments i name arity j (omega arith) (sym p ∙ q) x y).1)

  leads_was : (i j : ℕ) → Leads new i j → Leads old i j
  leads_was i j l = test (cases_lt i c.heap_top)
    where
      bound : new i ≡ Reference i → ⊥
      bound p = both_ways (unbound new i) l.1 (ap (refers_to i) p ∙ eq-eqb i i refl)

      by : (new i ≡ Reference i) ⊎ (new i ≡ old i) → Leads old i j
      by (inl p) = absurd (bound p)
      by (inr p) = (subst (λ (w : Cell). LeadsBy i w j) p l.0, subst (λ (w : Cell). refers_to i w ≡ false) p l.1)

      test : (i < c.heap_top) ⊎ (c.heap_top ≤ i) → Leads old i j
      test (inl lt) = by (either i lt)
      test (inr ge) = absurd (bound (heap_of_past s.heap i (let u = used_is in omega arith)))

  way_was : (i j : ℕ) → Way new i j → Way old i j
  way_was i j (step l) = step (leads_was i j l)
  way_was i j (more {j = m} l w) = more (leads_was i m l) (way_was m j w)

  word_keeps : (n : ℕ) → n ≤ c.heap_top → (w : Cell) → WordKeeps old (used t) w → ((j : ℕ) → LeadsBy 0 w j → j < n) → WordKeeps new (used s) w
  word_keeps n le (Reference m) p f = let l = f m (omega arith, omega arith) in let u = used_is in (omega arith, kind_is m (omega arith) ∙ p.1)
  word_keeps n le (Pointer m) p f = let l = f m (omega arith, omega arith) in let u = used_is in (omega arith, kind_is m (omega arith) ∙ p.1)
  word_keeps n le (Functor name arity) p f = p
  word_keeps n le (Atom a) p f = p
  word_keeps n le (Integer z) p f = p

  saved_keep : (d : Choice) → Under c d → SavedKeep t d → Closed t.heap t.trail d → SavedKeep s d
  saved_keep d u p b = each_two (WordKeeps old (used t)) (λ w. (j : ℕ) → LeadsBy 0 w j → j < d.heap_top) (WordKeeps new (used s))
      (word_keeps d.heap_top u.0) d.saved p b.saved

  level_closed : (d : Choice) → Under c d → Closed t.heap t.trail d → Closed s.heap s.trail d
  level_closed d u b = record {
    below = λ i j lt l. b.below i j lt (subst (λ (w : Cell). LeadsBy i w j) (seen_older t c d ds u.0 u.1 i lt) l);
    saved = b.saved;
    older = subst (Each (λ e. e < d.heap_top)) (sym (take-take d.trail_top c.trail_top t.trail u.1)) b.older;
  }

  abbrev Kept : ℕ → Type 0
  Kept e = (e < c.heap_top) × EntryNames old (used t) e

  entries : Each (EntryNames new (used s)) s.trail
  entries = each_two (λ e. is_in e gone ≡ false) Kept (EntryNames new (used s))
      (λ e p q. let u = used_is in let low = q.0 in
      (omega arith, ap (refers_to e) (cell_is e low ∙ ap (λ (b : Bool). cond b (Reference e) (old e)) p) ∙ q.1.1, kind_is e low ∙ q.1.2))
      s.trail (taken_apart c.trail_top t.trail r.trail.0)
      (each_two (λ e. e < c.heap_top) (EntryNames old (used t)) Kept (λ e p q. (p, q)) s.trail closed.older (each_take (EntryNames old (used t)) c.trail_top t.trail r.trail.1))

  under : Each (Under c) ds
  under = tops_under c c.heap_top c.trail_top ds (omega arith) (omega arith) fall

  pub rules_back : Rules s
  rules_back = record {
    references = references;
    pointers = pointers;
    arguments = arguments;
    registers = (
      saved_keep c (omega arith, omega arith) keep closed,
      each_two (Under c) (λ d. SavedKeep t d × Closed t.heap t.trail d) (SavedKeep s) (λ d u p. saved_keep d u p.0 p.1) ds under
          (each_two (SavedKeep t) (Closed t.heap t.trail) (λ d. SavedKeep t d × Closed t.heap t.trail d) (λ d p q. (p, q)) ds keeps levels),
    );
    trail = (different_take c.trail_top t.trail r.trail.0, entries);
    tops = falls_back t c ds ds h k fall;
    acyclic = λ i w. r.acyclic i (way_was i i w);
    levels = each_two (Under c) (Closed t.heap t.trail) (Closed s.heap s.trail) level_closed ds under levels;
  }

module _ (t : Tables) (r : Rules t) where
  abbrev KeptChoices : List Choice → Type 0
  KeptChoices cs = TopsFall (used t) (length t.trail) cs × Each (SavedKeep t) cs × Each (Closed t.heap t.trail) cs

  kept_choices : (cs : List Choice) → t.choices ≡ cs → KeptChoices cs
  kept_choices cs e = subst KeptChoices e (r.tops, r.registers.1, r.levels)

  last_of_lem : (cs : List Choice) → t.choices ≡ cs → Rules (last_of cs t)
  last_of_lem [] e = r
  last_of_lem (c ∷ cs) e = let p = kept_choices (c ∷ cs) e in
      rules_back t c cs r p.0.0 p.0.1 p.2.0 p.1.0 p.0.2 p.1.1 p.2.1

  pub rules_last : Rules (last t)
  rules_last = last_of_lem t.choices refl
