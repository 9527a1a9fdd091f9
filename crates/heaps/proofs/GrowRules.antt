-- New cells after those in use keep the rules, if each is an unbound variable, holds a word that may stand in a register,
-- or is a functor whose arguments are new cells too.
use Rattle.std.proofs.Common.{◌≡◌, ℕ, ◌+◌, ◌<◌, ◌≤◌, true, false, cond, ◌⊎◌, List, ◌++◌, length, drop, sym, refl, ap, ◌∙◌, subst, inl, inr, arith}
use Rattle.std.proofs.lemmas.List.{length-append, get_or_append_left}
use Rattle.std.proofs.lemmas.Bool.{eq-eqb, both_ways, cases_lt}
use Rattle.cells.specs.declared.cell.Cell.{Cell}
use Rattle.cells.specs.declared.cell.Cell.TheVariants.{Reference, Pointer, Functor, Atom, Integer}
use Rattle.cells.specs.Cells.{in_range}
use Rattle.tables.specs.Tables.{Choice, Tables, used, present, with_heap}
use Rattle.heaps.specs.Lists.{Each, is_in}
use Rattle.heaps.specs.Leads.{Heap, heap_of, LeadsBy, refers_to, unbound, is_functor, Leads, Way, step, more}
use Rattle.heaps.specs.Levels.{seen_from}
use Rattle.heaps.specs.Rules.{ReferencesLead, PointersLead, ArgumentsStand, WordKeeps, EntryNames, Closed, Rules, Fits}
use Rattle.heaps.specs.LevelLaws.{Keeps}
use Rattle.heaps.proofs.EachLaws.{each_map, each_two, each_append}
use Rattle.heaps.proofs.UnbindLaws.{heap_of_unbind_all, heap_of_past}
use Rattle.heaps.proofs.CutLaws.{Under, tops_under, tops_lower}
use Rattle.heaps.proofs.KeptWords.{word_leads, cell_leads}

-- What cell i may hold when the heap `old` of n cells grows to the heap `new` of m cells.
pub data NewCell (old new : Heap) (n m i : ℕ) (c : Cell) : Type 0 where
  word : WordKeeps old n c → NewCell old new n m i c
  variable : c ≡ Reference i → NewCell old new n m i c
  functor : (name arity : ℕ) → c ≡ Functor name arity → i + arity < m → ((j : ℕ) → i < j → j ≤ i + arity → is_functor (new j) ≡ false) → NewCell old new n m i c

module _ (t : Tables) (extra : List Cell) where
  abbrev pub grown : Tables
  grown = with_heap t (t.heap ++ extra)

  abbrev old : Heap
  old = heap_of t.heap

  abbrev new : Heap
  new = heap_of (t.heap ++ extra)

  pub used_grown : used grown ≡ used t + length extra
  used_grown = length-append t.heap extra

  pub cell_same : (i : ℕ) → i < used t → new i ≡ old i
  cell_same i lt = get_or_append_left t.heap extra (Reference i) i lt

  pub word_grown : (w : Cell) → WordKeeps old (used t) w → WordKeeps new (used grown) w
  word_grown (Reference m) k = let u = used_grown in let a = k.0 in (omega arith, ap is_functor (cell_same m a) ∙ k.1)
  word_grown (Pointer m) k = let u = used_grown in let a = k.0 in (omega arith, ap is_functor (cell_same m a) ∙ k.1)
  word_grown (Functor name arity) k = k
  word_grown (Atom a) k = k
  word_grown (Integer z) k = k

  pub keeps_more : (w : Cell) → Keeps t w → Keeps grown w
  keeps_more w k = (word_grown w k.0, k.1)

module _ (t : Tables) (extra : List Cell) (r : Rules t)
    (news : (i : ℕ) → used t ≤ i → i < used (grown t extra) → NewCell (old t extra) (new t extra) (used t) (used (grown t extra)) i (new t extra i)) where
  abbrev h : Heap
  h = old t extra

  abbrev h' : Heap
  h' = new t extra

  abbrev n : ℕ
  n = used t

  abbrev n' : ℕ
  n' = used (grown t extra)

  references : ReferencesLead h' n'
  references i m lt e = by (cases_lt i n)
    where
      fresh : NewCell h h' n n' i (h' i) → (m < n') × (is_functor (h' m) ≡ false)
      fresh (word k) = word_grown t extra (Reference m) (subst (WordKeeps h n) e k)
      fresh (variable p) = let s : i ≡ m = cc in (omega arith, subst (λ (j : ℕ). is_functor (h' j) ≡ false) s (ap is_functor p))
      fresh (functor name arity p q s) = absurd (let z : ◌≡◌ {A = ℕ} 0 1 = cc in omega arith)

      by : (i < n) ⊎ (n ≤ i) → (m < n') × (is_functor (h' m) ≡ false)
      by (inl p) = word_grown t extra (Reference m) (r.references i m p (sym (cell_same t extra i p) ∙ e))
      by (inr p) = fresh (news i p lt)

  pointers : PointersLead h' n'
  pointers i m lt e = by (cases_lt i n)
    where
      fresh : NewCell h h' n n' i (h' i) → (m < n') × (is_functor (h' m) ≡ true)
      fresh (word k) = word_grown t extra (Pointer m) (subst (WordKeeps h n) e k)
      fresh (variable p) = absurd (let z : ◌≡◌ {A = ℕ} 0 1 = cc in omega arith)
      fresh (functor name arity p q s) = absurd (let z : ◌≡◌ {A = ℕ} 0 1 = cc in omega arith)

      by : (i < n) ⊎ (n ≤ i) → (m < n') × (is_functor (h' m) ≡ true)
      by (inl p) = word_grown t extra (Pointer m) (r.pointers i m p (sym (cell_same t extra i p) ∙ e))
      by (inr p) = fresh (news i p lt)

  arguments : ArgumentsStand h' n'
  arguments i name arity j lt e x y = by (cases_lt i n)
    where
      fresh : NewCell h h' n n' i (h' i) → (j < n') × (is_functor (h' j) ≡ false)
      fresh (word k) = absurd (subst (WordKeeps h n) e k)
      fresh (variable p) = absurd (let z : ◌≡◌ {A = ℕ} 0 1 = cc in omega arith)
      fresh (functor name₂ arity₂ p q s) = let a : arity ≡ arity₂ = cc in (omega arith, s j x (omega arith))

      by : (i < n) ⊎ (n ≤ i) → (j < n') × (is_functor (h' j) ≡ false)
      by (inl p) = let u = used_grown t extra in let a = r.arguments i name arity j p (sym (cell_same t extra i p) ∙ e) x y in
          let b = a.0 in (omega arith, ap is_functor (cell_same t extra j b) ∙ a.1)
      by (inr p) = fresh (news i p lt)

  -- A cell that was in use leads where it led.
  leads_old : (i j : ℕ) → i < n → Leads h' i j → Leads h i j × (j < n)
  leads_old i j lt l = let e = cell_same t extra i lt in let a = subst (λ (w : Cell). LeadsBy i w j) e l.0 in
      ((a, subst (λ (w : Cell). refers_to i w ≡ false) e l.1), cell_leads t r i j lt a)

  way_old : (i j : ℕ) → i < n → Way h' i j → Way h i j
  way_old i j lt (step l) = step (leads_old i j lt l).0
  way_old i j lt (more {j = k} l w) = let a = leads_old i k lt l in more a.0 (way_old k j a.1 w)

  way_down : (i j : ℕ) → i < n → Way h' i j → j < n
  way_down i j lt (step l) = (leads_old i j lt l).1
  way_down i j lt (more {j = k} l w) = way_down k j (leads_old i k lt l).1 w

  -- A new cell leads to cells that were in use, or on to later ones.
  leads_new : (i j : ℕ) → n ≤ i → Leads h' i j → (j < n) ⊎ (i < j)
  leads_new i j le l = by (cases_lt i n')
    where
      bound : h' i ≡ Reference i → ⊥
      bound p = both_ways (unbound h' i) l.1 (ap (refers_to i) p ∙ eq-eqb i i refl)

      fresh : NewCell h h' n n' i (h' i) → (j < n) ⊎ (i < j)
      fresh (word k) = inl (word_leads h n i (h' i) k j l.0)
      fresh (variable p) = absurd (bound p)
      fresh (functor name arity p q s) = inr (let a = subst (λ (w : Cell). LeadsBy i w j) p l.0 in let b = a.0 in omega arith)

      by : (i < n') ⊎ (n' ≤ i) → (j < n) ⊎ (i < j)
      by (inl p) = fresh (news i le p)
      by (inr p) = absurd (bound (heap_of_past (t.heap ++ extra) i p))

  way_new : (i j : ℕ) → n ≤ i → Way h' i j → (j < n) ⊎ (i < j)
  way_new i j le (step l) = leads_new i j le l
  way_new i j le (more {j = k} l w) = by (leads_new i k le l) (λ q. way_new k j q w)
    where
      later : i < k → (j < n) ⊎ (k < j) → (j < n) ⊎ (i < j)
      later p (inl q) = inl q
      later p (inr q) = inr (omega arith)

      by : (k < n) ⊎ (i < k) → (n ≤ k → (j < n) ⊎ (k < j)) → (j < n) ⊎ (i < j)
      by (inl p) ih = inl (way_down k j p w)
      by (inr p) ih = later p (ih (omega arith))

  acyclic : (i : ℕ) → Way h' i i → ⊥
  acyclic i w = by (cases_lt i n)
    where
      never : n ≤ i → (i < n) ⊎ (i < i) → ⊥
      never p (inl q) = omega arith
      never p (inr q) = omega arith

      by : (i < n) ⊎ (n ≤ i) → ⊥
      by (inl p) = r.acyclic i (way_old i i p w)
      by (inr p) = never p (way_new i i p w)

  level_closed : (c : Choice) → Under (present t) c → Closed t.heap t.trail c → Closed (t.heap ++ extra) t.trail c
  level_closed c u b = record {
    below = λ i j lt l. b.below i j lt (subst (λ (w : Cell). LeadsBy i w j) (same i (let a = u.0 in omega arith)) l);
    saved = b.saved;
    older = b.older;
  }
    where
      es : List ℕ
      es = drop c.trail_top t.trail

      same : (i : ℕ) → i < n → heap_of (seen_from c (t.heap ++ extra) t.trail) i ≡ heap_of (seen_from c t.heap t.trail) i
      same i lt = heap_of_unbind_all (t.heap ++ extra) es i ∙ ap (cond (is_in i es) (Reference i)) (cell_same t extra i lt) ∙ sym (heap_of_unbind_all t.heap es i)

  abbrev Words : List Cell → Type 0
  Words ws = Each (WordKeeps h n) ws

  abbrev Words' : List Cell → Type 0
  Words' ws = Each (WordKeeps h' n') ws

  words : (ws : List Cell) → Words ws → Words' ws
  words ws k = each_map (WordKeeps h n) (WordKeeps h' n') (word_grown t extra) ws k

  pub rules_grown : Rules (grown t extra)
  rules_grown = record {
    references = references;
    pointers = pointers;
    arguments = arguments;
    registers = (words t.registers r.registers.0, each_map (λ c. Words c.saved) (λ c. Words' c.saved) (λ c k. words c.saved k) t.choices r.registers.1);
    trail = (r.trail.0, each_map (EntryNames h n) (EntryNames h' n') entry t.trail r.trail.1);
    tops = let u = used_grown t extra in tops_lower n n' (length t.trail) (length t.trail) t.choices (omega arith) (omega arith) r.tops;
    acyclic = acyclic;
    levels = each_two (Under (present t)) (Closed t.heap t.trail) (Closed (t.heap ++ extra) t.trail) level_closed t.choices
        (tops_under (present t) n (length t.trail) t.choices (omega arith) (omega arith) r.tops) r.levels;
  }
    where
      entry : (e : ℕ) → EntryNames h n e → EntryNames h' n' e
      entry e p = let u = used_grown t extra in let a = p.0 in let q = cell_same t extra e a in (omega arith, ap (refers_to e) q ∙ p.1, ap is_functor q ∙ p.2)

pub fits_grown : (t : Tables) (extra : List Cell) → used t + length extra ≤ 4096 → Each (λ c. in_range c ≡ true) extra → Fits t → Fits (grown t extra)
fits_grown t extra room ranges f = record {
  cells = let u = used_grown t extra in omega arith;
  entries = f.entries;
  points = f.points;
  registers = f.registers;
  saved = f.saved;
  heap_range = each_append (λ c. in_range c ≡ true) t.heap extra f.heap_range ranges;
  register_range = f.register_range;
  saved_range = f.saved_range;
}
