-- Taking trail entries off and making their cells unbound keeps the rules, and the tables fit the memory.
use Rattle.std.proofs.Common.{◌≡◌, ℕ, zero, suc, ◌<◌, ◌≤◌, Bool, true, false, cond, not, ◌&&◌, eqb, ◌⊎◌, List, [], ◌∷◌, map, length, take, drop, sym, refl, ap, ◌∙◌, subst, inl, inr, ⊎_elim, arith}
use Rattle.std.proofs.lemmas.List.{length-map}
use Rattle.std.proofs.lemmas.Bool.{both_ways, eq-eqb, lt-ltb, and_parts, or_right}
use Rattle.cells.specs.declared.cell.Cell.{Cell}
use Rattle.cells.specs.declared.cell.Cell.TheVariants.{Reference, Pointer, Functor, Atom, Integer}
use Rattle.cells.specs.Cells.{in_range}
use Rattle.tables.specs.Tables.{Choice, Tables, used}
use Rattle.heaps.specs.Lists.{Each, Among, is_in, Different}
use Rattle.heaps.specs.Leads.{Heap, heap_of, LeadsBy, Leads, Way, step, more, unbound, refers_to, is_functor}
use Rattle.heaps.specs.Levels.{seen_from}
use Rattle.heaps.specs.Rules.{WordKeeps, EntryNames, TopsFall, Closed, Rules, Fits}
use Rattle.heaps.specs.LevelLaws.{Stands}
use Rattle.heaps.proofs.EachLaws.{each_map, each_in}
use Rattle.heaps.proofs.MemberLaws.{each_among}
use Rattle.heaps.proofs.SeenLaws.{unbind_at}
use Rattle.heaps.proofs.KeptWords.{cell_ranged}
use Rattle.collectors.specs.Placing.{kept}
use Rattle.collectors.specs.Loosening.{loose_choice, Loosens}
use Rattle.collectors.proofs.PlaceLaws.{in_kept, different_kept, each_kept, length_kept, kept_take, kept_part, kept_drop, take_kept, each_map_of}
use Rattle.collectors.proofs.PlacedRules.{each_all}
use Rattle.collectors.proofs.ShortenRules.{each_index, any_default}

pub in_dropped : (n m : ℕ) (es : List ℕ) → is_in m (drop n es) ≡ true → is_in m es ≡ true
in_dropped zero m es e = e
in_dropped (suc n) m [] e = e
in_dropped (suc n) m (x ∷ es) e = or_right (eqb x m) (is_in m es) (in_dropped n m es e)

module _ (stays : ℕ → Bool) (t : Tables) (st : Stands t) (u : Tables) (l : Loosens stays t u) where
  abbrev h : Heap
  h = heap_of t.heap

  abbrev k : Heap
  k = heap_of u.heap

  abbrev off : ℕ → Bool
  off i = is_in i t.trail && not (stays i)

  pub off_cell : (i : ℕ) → off i ≡ true → k i ≡ Reference i
  off_cell i e = l.heap i ∙ ap (λ b. cond b (Reference i) (h i)) e

  pub on_cell : (i : ℕ) → off i ≡ false → k i ≡ h i
  on_cell i e = l.heap i ∙ ap (λ b. cond b (Reference i) (h i)) e

  -- a kept entry's cell is as it was
  pub stays_on : (i : ℕ) → stays i ≡ true → off i ≡ false
  stays_on i e = by (is_in i t.trail)
    where
      by : (b : Bool) → (b && not (stays i)) ≡ false
      by true = ap not e
      by false = refl

  named : (i : ℕ) → off i ≡ true → EntryNames h (used t) i
  named i e = each_in (EntryNames h (used t)) t.trail i st.0.trail.1 (and_parts (is_in i t.trail) (not (stays i)) e).0

  -- either made unbound, or as it was
  either : (i : ℕ) → (off i ≡ true) ⊎ (off i ≡ false)
  either i = by (off i) refl
    where
      by : (b : Bool) → off i ≡ b → (off i ≡ true) ⊎ (off i ≡ false)
      by true e = inl e
      by false e = inr e

  kind : (i : ℕ) → is_functor (k i) ≡ is_functor (h i)
  kind i = ⊎_elim (λ e. ap is_functor (off_cell i e) ∙ sym (named i e).2) (λ e. ap is_functor (on_cell i e)) (either i)

  within : (i : ℕ) → i < used u → i < used t
  within i lt = let a = l.cells in omega arith

  back : (i : ℕ) → i < used t → i < used u
  back i lt = let a = l.cells in omega arith

  pub word : (w : Cell) → WordKeeps h (used t) w → WordKeeps k (used u) w
  word (Reference m) p = (back m p.0, kind m ∙ p.1)
  word (Pointer m) p = (back m p.0, kind m ∙ p.1)
  word (Functor name arity) p = p
  word (Atom a) p = p
  word (Integer z) p = p

  leads_was : (i j : ℕ) → Leads k i j → Leads h i j
  leads_was i j p =
      ⊎_elim (λ e. absurd (both_ways (unbound k i) p.1 (ap (refers_to i) (off_cell i e) ∙ eq-eqb i i refl)))
      (λ e. (subst (λ (c : Cell). LeadsBy i c j) (on_cell i e) p.0, sym (ap (refers_to i) (on_cell i e)) ∙ p.1)) (either i)

  way_was : {i j : ℕ} → Way k i j → Way h i j
  way_was (step q) = step (leads_was _ _ q)
  way_was (more q w) = more (leads_was _ _ q) (way_was w)

  -- what a choice point sees: the cell is unbound, or as it was seen
  pub seen_loose : (c : Choice) (i : ℕ)
      → heap_of (seen_from (loose_choice stays t c) u.heap u.trail) i ≡ cond (stays i && is_in i (drop c.trail_top t.trail)) (Reference i) (k i)
  seen_loose c i =
      unbind_at u.heap (drop (loose_choice stays t c).trail_top u.trail) i
      ∙ ap (λ (es : List ℕ). cond (is_in i (drop (loose_choice stays t c).trail_top es)) (Reference i) (k i)) l.trail
      ∙ ap (λ (es : List ℕ). cond (is_in i es) (Reference i) (k i)) (kept_drop stays c.trail_top t.trail)
      ∙ ap (λ b. cond b (Reference i) (k i)) (in_kept stays (drop c.trail_top t.trail) i)

  seen_either : (c : Choice) (i : ℕ) → (heap_of (seen_from (loose_choice stays t c) u.heap u.trail) i ≡ Reference i)
      ⊎ (heap_of (seen_from (loose_choice stays t c) u.heap u.trail) i ≡ heap_of (seen_from c t.heap t.trail) i)
  seen_either c i = by (stays i) refl (is_in i (drop c.trail_top t.trail)) refl (seen_loose c i) (unbind_at t.heap (drop c.trail_top t.trail) i)
    where
      by : {x y : Cell} (a : Bool) → stays i ≡ a → (b : Bool) → is_in i (drop c.trail_top t.trail) ≡ b → x ≡ cond (a && b) (Reference i) (k i) → y ≡ cond b (Reference i) (h i) → (x ≡ Reference i) ⊎ (x ≡ y)
      by true s true d p q = inl p
      by true s false d p q = inr (p ∙ on_cell i (stays_on i s) ∙ sym q)
      by false s true d p q = inl (p ∙ off_cell i (ap (λ b. b && not (stays i)) (in_dropped c.trail_top i t.trail d) ∙ ap not s))
      by false s false d p q = ⊎_elim (λ e. inl (p ∙ off_cell i e)) (λ e. inr (p ∙ on_cell i e ∙ sym q)) (either i)

  closed : (c : Choice) → Among c t.choices → Closed u.heap u.trail (loose_choice stays t c)
  closed c n = record {
    below = λ i j lt led. ⊎_elim (λ e. let p = subst (λ (d : Cell). LeadsBy i d j) e led in let a = p.0 in let b = p.1 in omega arith)
        (λ e. was.below i j lt (subst (λ (d : Cell). LeadsBy i d j) e led)) (seen_either c i);
    saved = was.saved;
    older = subst (λ (es : List ℕ). Each (λ e. e < c.heap_top) (take (loose_choice stays t c).trail_top es)) (sym l.trail)
        (subst (Each (λ e. e < c.heap_top)) (sym (take_kept stays c.trail_top t.trail))
        (each_map (λ e. (e < c.heap_top) × (stays e ≡ true)) (λ e. e < c.heap_top) (λ e p. p.0) (kept stays (take c.trail_top t.trail)) (each_kept (λ e. e < c.heap_top) stays (take c.trail_top t.trail) was.older)));
  }
    where
      was : Closed t.heap t.trail c
      was = each_among (Closed t.heap t.trail) st.0.levels n

  tops_loose : (n m m' : ℕ) (cs : List Choice) → length (kept stays (take m t.trail)) ≤ m' → TopsFall n m cs → TopsFall n m' (map (loose_choice stays t) cs)
  tops_loose n m m' [] a v = tt
  tops_loose n m m' (c ∷ cs) a v =
      (v.0, (let x = kept_take stays c.trail_top m t.trail v.1 in omega arith), tops_loose c.heap_top c.trail_top (length (kept stays (take c.trail_top t.trail))) cs (omega arith) v.2)

  abbrev loose : List Choice
  loose = map (loose_choice stays t) t.choices

  pub rules_loose : Rules u
  rules_loose = record {
    references = λ i m lt e. ⊎_elim (λ o. let z : i ≡ m = cc (off_cell i o, e) in subst (λ x. (x < used u) × (is_functor (k x) ≡ false)) z (lt, ap is_functor (off_cell i o)))
        (λ o. let p = st.0.references i m (within i lt) (sym (on_cell i o) ∙ e) in (back m p.0, kind m ∙ p.1)) (either i);
    pointers = λ i m lt e. ⊎_elim (λ o. absurd (let z : ◌≡◌ {A = ℕ} 0 1 = cc (off_cell i o, e) in omega arith))
        (λ o. let p = st.0.pointers i m (within i lt) (sym (on_cell i o) ∙ e) in (back m p.0, kind m ∙ p.1)) (either i);
    arguments = λ i name arity j lt e a b. ⊎_elim (λ o. absurd (let z : ◌≡◌ {A = ℕ} 0 1 = cc (off_cell i o, e) in omega arith))
        (λ o. let p = st.0.arguments i name arity j (within i lt) (sym (on_cell i o) ∙ e) a b in (back j p.0, kind j ∙ p.1)) (either i);
    registers = (
      subst (Each (WordKeeps k (used u))) (sym l.registers) (each_map (WordKeeps h (used t)) (WordKeeps k (used u)) word t.registers st.0.registers.0),
      subst (Each (λ c. Each (WordKeeps k (used u)) c.saved)) (sym l.choices)
          (each_map_of (λ c. Each (WordKeeps k (used u)) c.saved) (loose_choice stays t) t.choices
          (each_map (λ c. Each (WordKeeps h (used t)) c.saved) (λ c. Each (WordKeeps k (used u)) c.saved) (λ c e. each_map (WordKeeps h (used t)) (WordKeeps k (used u)) word c.saved e) t.choices st.0.registers.1)),
    );
    trail = (
      subst Different (sym l.trail) (different_kept stays t.trail st.0.trail.0),
      subst (Each (EntryNames k (used u))) (sym l.trail)
          (each_map (λ e. EntryNames h (used t) e × (stays e ≡ true)) (EntryNames k (used u))
          (λ e p. (back e p.0.0, ap (refers_to e) (on_cell e (stays_on e p.1)) ∙ p.0.1, kind e ∙ p.0.2)) (kept stays t.trail) (each_kept (EntryNames h (used t)) stays t.trail st.0.trail.1)),
    );
    tops = subst (λ (cs : List Choice). TopsFall (used u) (length u.trail) cs) (sym l.choices)
        (subst (λ n. TopsFall n (length u.trail) loose) (sym l.cells)
        (tops_loose (used t) (length t.trail) (length u.trail) t.choices (let a = kept_part stays (length t.trail) t.trail in let b = ap length l.trail in omega arith) st.0.tops));
    acyclic = λ i w. st.0.acyclic i (way_was w);
    levels = subst (Each (Closed u.heap u.trail)) (sym l.choices)
        (each_map_of (Closed u.heap u.trail) (loose_choice stays t) t.choices (each_all (λ c. Closed u.heap u.trail (loose_choice stays t c)) t.choices closed));
  }

  pub fits_loose : Fits u
  fits_loose = record {
    cells = let a = l.cells in let b = st.1.cells in omega arith;
    entries = let a = ap length l.trail in let b = length_kept stays t.trail in let c = st.1.entries in omega arith;
    points = let a = ap length l.choices in let b = length-map t.choices (loose_choice stays t) in let c = st.1.points in omega arith;
    registers = ap length l.registers ∙ st.1.registers;
    saved = subst (Each (λ c. length c.saved ≡ 8)) (sym l.choices) (each_map_of (λ c. length c.saved ≡ 8) (loose_choice stays t) t.choices st.1.saved);
    heap_range = each_index (λ w. in_range w ≡ true) (Atom 0) u.heap (λ i lt. subst (λ (c : Cell). in_range c ≡ true) (any_default u.heap i (Reference i) (Atom 0) lt) (ranged i lt));
    register_range = subst (Each (λ w. in_range w ≡ true)) (sym l.registers) st.1.register_range;
    saved_range = subst (Each (λ c. Each (λ w. in_range w ≡ true) c.saved)) (sym l.choices) (each_map_of (λ c. Each (λ w. in_range w ≡ true) c.saved) (loose_choice stays t) t.choices st.1.saved_range);
  }
    where
      ranged : (i : ℕ) → i < used u → in_range (k i) ≡ true
      ranged i lt = ⊎_elim (λ e. ap in_range (off_cell i e) ∙ lt-ltb i 4096 (let a = within i lt in let b = st.1.cells in omega arith)) (λ e. ap in_range (on_cell i e) ∙ cell_ranged t st.1 i (within i lt)) (either i)
