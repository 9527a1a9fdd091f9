-- Shortening keeps the rules, and the tables fit the memory.
use Rattle.std.proofs.Common.{◌≡◌, ℕ, zero, suc, ◌<◌, ◌≤◌, Bool, true, false, cond, eqb, List, [], ◌∷◌, map, length, get_or, drop, sym, refl, ap, ◌∙◌, subst, ⊎_elim, arith}
use Rattle.std.proofs.lemmas.List.{get_or-map, length-map}
use Rattle.std.proofs.lemmas.Bool.{both_ways, cases_lt, eq-eqb, or_parts}
use Rattle.cells.specs.declared.cell.Cell.{Cell}
use Rattle.cells.specs.declared.cell.Cell.TheVariants.{Reference, Pointer, Functor, Atom, Integer}
use Rattle.cells.specs.Cells.{in_range}
use Rattle.tables.specs.Tables.{Choice, Tables, used}
use Rattle.heaps.specs.Lists.{Each, Among, is_in}
use Rattle.heaps.specs.Leads.{Heap, heap_of, LeadsBy, Leads, Way, step, more, unbound, refers_to, is_functor}
use Rattle.heaps.specs.Levels.{seen_from}
use Rattle.heaps.specs.Rules.{WordKeeps, EntryNames, TopsFall, Closed, Rules, Fits}
use Rattle.heaps.specs.LevelLaws.{Stands}
use Rattle.heaps.proofs.EachLaws.{each_map}
use Rattle.heaps.proofs.MemberLaws.{each_among}
use Rattle.heaps.proofs.SeenLaws.{unbind_at}
use Rattle.heaps.proofs.UnbindLaws.{heap_of_past}
use Rattle.heaps.proofs.Sound.{rules_sound, cell_keeps}
use Rattle.heaps.proofs.KeptWords.{cell_ranged}
use Rattle.collectors.specs.Shortening.{short, short_choice, shorten}
use Rattle.collectors.proofs.PlaceLaws.{each_map_of}
use Rattle.collectors.proofs.PlacedRules.{each_all, tops_inside}
use Rattle.collectors.proofs.ShortWords.{leads_anywhere, target_keeps, short_passes, short_keeps, short_ranged, short_leads, short_self, short_functor, short_kind}

pub each_index : {A : Type 0} (P : A → Type 0) (d : A) (xs : List A) → ((i : ℕ) → i < length xs → P (get_or xs i d)) → Each P xs
each_index P d [] f = tt
each_index P d (x ∷ xs) f = (f 0 (omega arith), each_index P d xs (λ i lt. f (suc i) (omega arith)))

pub any_default : {A : Type 0} (xs : List A) (i : ℕ) (d e : A) → i < length xs → get_or xs i d ≡ get_or xs i e
any_default [] i d e lt = absurd (omega arith)
any_default (x ∷ xs) zero d e lt = refl
any_default (x ∷ xs) (suc i) d e lt = any_default xs i d e (omega arith)

not_dropped : (n m : ℕ) (es : List ℕ) → is_in m es ≡ false → is_in m (drop n es) ≡ false
not_dropped zero m es e = e
not_dropped (suc n) m [] e = refl
not_dropped (suc n) m (x ∷ es) e = not_dropped n m es (or_parts (eqb x m) (is_in m es) e).1

module _ (t : Tables) (st : Stands t) where
  abbrev h : Heap
  h = heap_of t.heap

  abbrev u : Tables
  u = shorten t

  abbrev k : Heap
  k = heap_of (shorten t).heap

  abbrev Word : Cell → Type 0
  Word = WordKeeps (heap_of t.heap) (used t)

  pub used_short : used u ≡ used t
  used_short = length-map t.heap (short t)

  pub cell_short : (i : ℕ) → i < used t → k i ≡ short t (h i)
  cell_short i lt = get_or-map (short t) t.heap i (Reference i) (Reference i) lt

  pub beyond_short : (i : ℕ) → used t ≤ i → k i ≡ Reference i
  beyond_short i le = heap_of_past u.heap i (let a = used_short in omega arith)

  kind_short : (i : ℕ) → i < used t → is_functor (k i) ≡ is_functor (h i)
  kind_short i lt = ap is_functor (cell_short i lt) ∙ (short_kind t st i lt).2

  word_short : (w : Cell) → Word w → WordKeeps k (used u) (short t w)
  word_short w q = by (short t w) (short_keeps t st w q)
    where
      by : (c : Cell) → Word c → WordKeeps k (used u) c
      by (Reference m) p = (let a = p.0 in let b = used_short in omega arith, kind_short m p.0 ∙ p.1)
      by (Pointer m) p = (let a = p.0 in let b = used_short in omega arith, kind_short m p.0 ∙ p.1)
      by (Functor name arity) p = p
      by (Atom a) p = tt
      by (Integer z) p = tt

  -- what a cell holds afterwards: a functor as before, or a word that may stand in a register
  held : (i : ℕ) → i < used t → ((name arity : ℕ) → h i ≡ Functor name arity → k i ≡ Functor name arity) × (is_functor (h i) ≡ false → WordKeeps k (used u) (k i))
  held i lt = (
    λ name arity e. cell_short i lt ∙ ap (short t) e ∙ short_functor t st (used t) name arity,
    λ e. subst (WordKeeps k (used u)) (sym (cell_short i lt)) (word_short (h i) (cell_keeps h (used t) (rules_sound t st.0) i lt e)),
  )

  pub functor_stays : (i : ℕ) → is_functor (h i) ≡ true → short t (h i) ≡ h i
  functor_stays i e = by (h i) refl
    where
      by : (c : Cell) → h i ≡ c → short t (h i) ≡ h i
      by (Functor name arity) q = ap (short t) q ∙ short_functor t st (used t) name arity ∙ sym q
      by (Reference m) q = absurd (both_ways (is_functor (h i)) (ap is_functor q) e)
      by (Pointer m) q = absurd (both_ways (is_functor (h i)) (ap is_functor q) e)
      by (Atom a) q = absurd (both_ways (is_functor (h i)) (ap is_functor q) e)
      by (Integer z) q = absurd (both_ways (is_functor (h i)) (ap is_functor q) e)

  within : (i : ℕ) → i < used u → i < used t
  within i lt = let a = used_short in omega arith

  no_functor : (i : ℕ) (lt : i < used t) (c : Cell) → k i ≡ c → is_functor c ≡ false → WordKeeps k (used u) c
  no_functor i lt c e q = subst (WordKeeps k (used u)) e ((held i lt).1 (sym (kind_short i lt) ∙ ap is_functor e ∙ q))

  functor_was : (i name arity : ℕ) → i < used t → k i ≡ Functor name arity → h i ≡ Functor name arity
  functor_was i name arity lt e = sym (functor_stays i (sym (kind_short i lt) ∙ ap is_functor e)) ∙ sym (cell_short i lt) ∙ e

  -- a step in the new heap is a way in the old
  step_was : (i j : ℕ) → Leads k i j → Way h i j
  step_was i j l = ⊎_elim inside outside (cases_lt i (used t))
    where
      outside : used t ≤ i → Way h i j
      outside le = absurd (both_ways (unbound k i) l.1 (ap (refers_to i) (beyond_short i le) ∙ eq-eqb i i refl))

      inside : i < used t → Way h i j
      inside lt = by (is_functor (h i)) refl
        where
          bound : unbound h i ≡ false
          bound = sym (ap (refers_to i) (cell_short i lt) ∙ short_self t st i lt) ∙ l.1

          led : LeadsBy i (short t (h i)) j
          led = subst (λ (c : Cell). LeadsBy i c j) (cell_short i lt) l.0

          by : (b : Bool) → is_functor (h i) ≡ b → Way h i j
          by false e =
              let w = cell_keeps h (used t) (rules_sound t st.0) i lt e in
              let there = short_leads t st (h i) w j (leads_anywhere h (used t) i 0 (short t (h i)) (short_keeps t st (h i) w) j led) in
              ⊎_elim (λ (p : LeadsBy 0 (h i) j). step (leads_anywhere h (used t) 0 i (h i) w j p, bound))
              (λ (p : (y : ℕ) × LeadsBy 0 (h i) y × Way h y j). more (leads_anywhere h (used t) 0 i (h i) w p.0 p.1, bound) p.2) there
          by true e = step (subst (λ (c : Cell). LeadsBy i c j) (functor_stays i e) led, bound)

  way_was : {i j : ℕ} → Way k i j → Way h i j
  way_was (step l) = step_was _ _ l
  way_was (more l w) = join (step_was _ _ l) (way_was w)
    where
      join : {a b c : ℕ} → Way h a b → Way h b c → Way h a c
      join (step x) y = more x y
      join (more x z) y = more x (join z y)

  -- a shortened word leads below the top of a choice point where the word does
  module _ (c : Choice) (n : Among c t.choices) where
    was : Closed t.heap t.trail c
    was = each_among (Closed t.heap t.trail) st.0.levels n

    pub low : c.heap_top ≤ used t
    low = each_among (λ d. d.heap_top ≤ used t) (tops_inside (used t) (length t.trail) t.choices st.0.tops) n

    -- a cell that is not on the trail is seen as it is
    pub seen_as : (m : ℕ) → is_in m t.trail ≡ false → heap_of (seen_from c t.heap t.trail) m ≡ h m
    seen_as m e = unbind_at t.heap (drop c.trail_top t.trail) m ∙ ap (λ b. cond b (Reference m) (h m)) (not_dropped c.trail_top m t.trail e)

    abbrev Under : Cell → Type 0
    Under w = (j : ℕ) → LeadsBy 0 w j → j < c.heap_top

    pub short_under : (w : Cell) → Word w → Under w → Under (short t w)
    short_under w q below = short_passes t st Under (λ m k' e f p j l. was.below m j (p m (omega arith, omega arith))
        (subst (λ (d : Cell). LeadsBy m d j) (sym (seen_as m f)) (leads_anywhere h (used t) 0 m (h m) (target_keeps t st m k') j l))) (used t) w q below

    closed : Closed u.heap u.trail (short_choice t c)
    closed = record {
      below = below;
      saved = each_map_of (λ w. (j : ℕ) → LeadsBy 0 w j → j < c.heap_top) (short t) c.saved
          (each_all (λ w. Under (short t w)) c.saved
          (λ w m. short_under w (each_among Word (each_among (λ d. Each Word d.saved) st.0.registers.1 n) m) (each_among (λ x. Under x) was.saved m)));
      older = was.older;
    }
      where
        below : (i j : ℕ) → i < c.heap_top → LeadsBy i (heap_of (seen_from c u.heap u.trail) i) j → j < c.heap_top
        below i j lt l = by (is_in i (drop c.trail_top t.trail)) refl (subst (λ (d : Cell). LeadsBy i d j) (unbind_at u.heap (drop c.trail_top t.trail) i) l)
          where
            inside : i < used t
            inside = let a = low in omega arith

            by : (b : Bool) → is_in i (drop c.trail_top t.trail) ≡ b → LeadsBy i (cond b (Reference i) (k i)) j → j < c.heap_top
            by true e q = let x = q.0 in let y = q.1 in omega arith
            by false e q = cell (is_functor (h i)) refl (subst (λ (d : Cell). LeadsBy i d j) (cell_short i inside) q)
              where
                seen : heap_of (seen_from c t.heap t.trail) i ≡ h i
                seen = unbind_at t.heap (drop c.trail_top t.trail) i ∙ ap (λ b. cond b (Reference i) (h i)) e

                cell : (b : Bool) → is_functor (h i) ≡ b → LeadsBy i (short t (h i)) j → j < c.heap_top
                cell false f r =
                    let w = cell_keeps h (used t) (rules_sound t st.0) i inside f in
                    short_under (h i) w (λ y p. was.below i y lt (subst (λ (d : Cell). LeadsBy i d y) (sym seen) (leads_anywhere h (used t) 0 i (h i) w y p))) j
                    (leads_anywhere h (used t) i 0 (short t (h i)) (short_keeps t st (h i) w) j r)
                cell true f r = was.below i j lt (subst (λ (d : Cell). LeadsBy i d j) (functor_stays i f ∙ sym seen) r)

  words_short : (ws : List Cell) → Each Word ws → Each (WordKeeps k (used u)) (map (short t) ws)
  words_short ws e = each_map_of (WordKeeps k (used u)) (short t) ws (each_map Word (λ w. WordKeeps k (used u) (short t w)) word_short ws e)

  tops_short : (n m : ℕ) (cs : List Choice) → TopsFall n m cs → TopsFall n m (map (short_choice t) cs)
  tops_short n m [] v = tt
  tops_short n m (c ∷ cs) v = (v.0, v.1, tops_short c.heap_top c.trail_top cs v.2)

  pub rules_shorten : Rules u
  rules_shorten = record {
    references = λ i m lt e. no_functor i (within i lt) (Reference m) e refl;
    pointers = λ i m lt e. no_functor i (within i lt) (Pointer m) e refl;
    arguments = λ i name arity j lt e p q.
        let a = st.0.arguments i name arity j (within i lt) (functor_was i name arity (within i lt) e) p q in
        (let x = a.0 in let y = used_short in omega arith, kind_short j a.0 ∙ a.1);
    registers = (
      words_short t.registers st.0.registers.0,
      each_map_of (λ c. Each (WordKeeps k (used u)) c.saved) (short_choice t) t.choices
          (each_map (λ c. Each Word c.saved) (λ c. Each (WordKeeps k (used u)) (short_choice t c).saved) (λ c e. words_short c.saved e) t.choices st.0.registers.1),
    );
    trail = (
      st.0.trail.0,
      each_map (EntryNames h (used t)) (EntryNames k (used u))
          (λ e p. (let x = p.0 in let y = used_short in omega arith, ap (refers_to e) (cell_short e p.0) ∙ short_self t st e p.0 ∙ p.1, kind_short e p.0 ∙ p.2)) t.trail st.0.trail.1,
    );
    tops = subst (λ x. TopsFall x (length t.trail) u.choices) (sym used_short) (tops_short (used t) (length t.trail) t.choices st.0.tops);
    acyclic = λ i w. st.0.acyclic i (way_was w);
    levels = each_map_of (Closed u.heap u.trail) (short_choice t) t.choices (each_all (λ c. Closed u.heap u.trail (short_choice t c)) t.choices closed);
  }

  ranged_words : (ws : List Cell) → Each Word ws → Each (λ w. in_range w ≡ true) ws → Each (λ w. in_range w ≡ true) (map (short t) ws)
  ranged_words ws e r = each_map_of (λ w. in_range w ≡ true) (short t) ws (each_all (λ w. in_range (short t w) ≡ true) ws (λ w m. short_ranged t st w (each_among Word e m) (each_among (λ x. in_range x ≡ true) r m)))

  pub fits_shorten : Fits u
  fits_shorten = record {
    cells = let a = used_short in let b = st.1.cells in omega arith;
    entries = st.1.entries;
    points = let a = length-map t.choices (short_choice t) in let b = st.1.points in omega arith;
    registers = length-map t.registers (short t) ∙ st.1.registers;
    saved = each_map_of (λ c. length c.saved ≡ 8) (short_choice t) t.choices
        (each_map (λ c. length c.saved ≡ 8) (λ c. length (short_choice t c).saved ≡ 8) (λ c e. length-map c.saved (short t) ∙ e) t.choices st.1.saved);
    heap_range = each_map_of (λ w. in_range w ≡ true) (short t) t.heap (each_index (λ w. in_range (short t w) ≡ true) (Atom 0) t.heap (λ i lt. subst (λ (c : Cell). in_range (short t c) ≡ true) (any_default t.heap i (Reference i) (Atom 0) lt) (cell_range i lt)));
    register_range = ranged_words t.registers st.0.registers.0 st.1.register_range;
    saved_range = each_map_of (λ c. Each (λ w. in_range w ≡ true) c.saved) (short_choice t) t.choices
        (each_all (λ c. Each (λ w. in_range w ≡ true) (short_choice t c).saved) t.choices
        (λ c n. ranged_words c.saved (each_among (λ d. Each Word d.saved) st.0.registers.1 n) (each_among (λ d. Each (λ w. in_range w ≡ true) d.saved) st.1.saved_range n)));
  }
    where
      cell_range : (i : ℕ) → i < used t → in_range (short t (h i)) ≡ true
      cell_range i lt = by (is_functor (h i)) refl
        where
          ranged : in_range (h i) ≡ true
          ranged = cell_ranged t st.1 i lt

          by : (b : Bool) → is_functor (h i) ≡ b → in_range (short t (h i)) ≡ true
          by false e = short_ranged t st (h i) (cell_keeps h (used t) (rules_sound t st.0) i lt e) ranged
          by true e = ap in_range (functor_stays i e) ∙ ranged
