-- Placing the reached cells in an order leaves tables that keep the rules and fit the memory.
use Rattle.std.proofs.Common.{◌≡◌, ℕ, ◌+◌, ◌-◌, ◌<◌, ◌≤◌, Bool, true, false, cond, eqb, List, [], ◌∷◌, map, length, take, drop, sym, refl, ap, ◌∙◌, subst, ⊎_elim, arith}
use Rattle.std.proofs.lemmas.List.{length-map, take-map}
use Rattle.std.proofs.lemmas.Bool.{both_ways, cases_lt, eq-eqb, lt-ltb, and_parts, or_left, or_right}
use Rattle.cells.specs.declared.cell.Cell.{Cell}
use Rattle.cells.specs.declared.cell.Cell.TheVariants.{Reference, Pointer, Functor, Atom, Integer}
use Rattle.cells.specs.Cells.{in_range}
use Rattle.tables.specs.Tables.{Choice, Tables, used, cell_at}
use Rattle.heaps.specs.Lists.{Each, Among, here, further, is_in}
use Rattle.heaps.specs.Leads.{heap_of, LeadsBy, is_functor, refers_to, unbound, relocate, Acyclic}
use Rattle.heaps.specs.Spelling.{arity_of}
use Rattle.heaps.specs.Levels.{seen_from}
use Rattle.heaps.specs.Reached.{is_reached, reached_count, roots, saved_words, direct}
use Rattle.heaps.specs.Rules.{WordKeeps, EntryNames, TrailNames, TopsFall, Closed, Rules, Fits}
use Rattle.heaps.specs.LevelLaws.{Stands}
use Rattle.heaps.proofs.MemberLaws.{each_among, among_left, among_right}
use Rattle.heaps.proofs.EachLaws.{each_map}
use Rattle.heaps.proofs.UnbindLaws.{heap_of_past}
use Rattle.heaps.proofs.SeenLaws.{unbind_at}
use Rattle.heaps.proofs.CountLaws.{count_at_most}
use Rattle.heaps.proofs.KeptWords.{cell_ranged}
use Rattle.heaps.proofs.Sound.{Sound, rules_sound}
use Rattle.heaps.proofs.MoveLaws.{unbound_moved, acyclic_moved}
use Rattle.heaps.proofs.MovedSound.{moved_sound, keeps_moved}
use Rattle.heaps.proofs.ReachedDecided.{reached_decided}
use Rattle.collectors.specs.Placing.{kept, place_in, placed_choice, placed}
use Rattle.collectors.specs.Orders.{Orders}
use Rattle.collectors.proofs.PlaceLaws.{in_kept, different_kept, each_kept, length_kept, kept_take, kept_part, take_kept, each_map_of, different_map}
use Rattle.collectors.proofs.PlacedMoves.{R, reached_inside, used_placed, apart, reached_on, arrives, moves, source, source_reached, source_placed, onto, seen_placed}
use Rattle.collectors.proofs.PlacedCount.{count_order}

pub each_all : {A : Type 0} (P : A → Type 0) (xs : List A) → ((x : A) → Among x xs → P x) → Each P xs
each_all P [] g = tt
each_all P (x ∷ xs) g = (g x here, each_all P xs (λ y m. g y (further m)))

pub among_saved : (c : Choice) (cs : List Choice) → Among c cs → (w : Cell) → Among w c.saved → Among w (saved_words cs)
among_saved c _ (here {xs = cs}) w m = among_left (saved_words cs) m
among_saved c _ (further {y = d} {xs = cs} n) w m = among_right d.saved (among_saved c cs n w m)

among_in : (x : ℕ) (xs : List ℕ) → Among x xs → is_in x xs ≡ true
among_in x _ (here {xs = xs}) = or_left (eqb x x) (is_in x xs) (eq-eqb x x refl)
among_in x _ (further {y = y} {xs = xs} m) = or_right (eqb y x) (is_in x xs) (among_in x xs m)

pub tops_inside : (n k : ℕ) (cs : List Choice) → TopsFall n k cs → Each (λ c. c.heap_top ≤ n) cs
tops_inside n k [] v = tt
tops_inside n k (c ∷ cs) v = (v.0, each_map (λ d. d.heap_top ≤ c.heap_top) (λ d. d.heap_top ≤ n) (λ d le. let a = v.0 in omega arith) cs (tops_inside c.heap_top c.trail_top cs v.2))

kind : (g : ℕ → ℕ) (c : Cell) → is_functor (relocate g c) ≡ is_functor c
kind g (Reference n) = refl
kind g (Pointer n) = refl
kind g (Functor name arity) = refl
kind g (Atom a) = refl
kind g (Integer z) = refl

-- what a moved word leads to is what it led to, moved
leads_back : (g : ℕ → ℕ) (d : Cell) (i j : ℕ) → ((m : ℕ) → m ≤ arity_of d → g (i + m) ≡ g i + m) → LeadsBy (g i) (relocate g d) j → (y : ℕ) × LeadsBy i d y × (g y ≡ j)
leads_back g (Reference y) i j near l = let a = l.0 in let b = l.1 in (y, (omega arith, omega arith), omega arith)
leads_back g (Pointer y) i j near l = let a = l.0 in let b = l.1 in (y, (omega arith, omega arith), omega arith)
leads_back g (Functor name arity) i j near l =
    let a = l.0 in let b = l.1 in let p = near (j - g i) (omega arith) in (i + (j - g i), (omega arith, omega arith), omega arith)
leads_back g (Atom n) i j near l = let a = l.0 in let b = l.1 in absurd (omega arith)
leads_back g (Integer z) i j near l = let a = l.0 in let b = l.1 in absurd (omega arith)

module _ (t : Tables) (st : Stands t) (order : List ℕ) (top : ℕ → ℕ) (o : Orders t order top) where
  abbrev g : ℕ → ℕ
  g = place_in order

  abbrev v : Tables
  v = placed order top t

  abbrev Is : ℕ → Type 0
  Is i = is_reached t i ≡ true

  -- what a root leads to is reached
  pub root_leads : (w : Cell) → Among w (roots t) → (j : ℕ) → LeadsBy 0 w j → Is j
  root_leads w m j l = (reached_decided t st.0 j).1 (direct m l)

  pub register_leads : (w : Cell) → Among w t.registers → (j : ℕ) → LeadsBy 0 w j → Is j
  register_leads w m = root_leads w (among_left (saved_words t.choices) m)

  pub saved_leads : (c : Choice) → Among c t.choices → (w : Cell) → Among w c.saved → (j : ℕ) → LeadsBy 0 w j → Is j
  saved_leads c n w m = root_leads w (among_right t.registers (among_saved c t.choices n w m))

  sound : Sound (heap_of v.heap) (used v)
  sound = moved_sound (R t st order top o) g (heap_of t.heap) (heap_of v.heap) (moves t st order top o) (used t) (used v) (rules_sound t st.0) (onto t st order top o)
      (λ j le. heap_of_past v.heap j le)

  keeps : (w : Cell) → ((j : ℕ) → LeadsBy 0 w j → Is j) → WordKeeps (heap_of t.heap) (used t) w → WordKeeps (heap_of v.heap) (used v) (relocate g w)
  keeps = keeps_moved (R t st order top o) g (heap_of t.heap) (heap_of v.heap) (moves t st order top o) (used t) (used v) (rules_sound t st.0) (onto t st order top o)

  words_keep : (ws : List Cell) → ((w : Cell) → Among w ws → (j : ℕ) → LeadsBy 0 w j → Is j) → Each (WordKeeps (heap_of t.heap) (used t)) ws
      → Each (WordKeeps (heap_of v.heap) (used v)) (map (relocate g) ws)
  words_keep ws leads k = each_map_of (WordKeeps (heap_of v.heap) (used v)) (relocate g) ws (each_all (λ w. WordKeeps (heap_of v.heap) (used v) (relocate g w)) ws (λ w m. keeps w (leads w m) (each_among (WordKeeps (heap_of t.heap) (used t)) k m)))

  below_used : (i : ℕ) → Is i → g i < used v
  below_used i r = (onto t st order top o).below i r

  entries : TrailNames v
  entries = (
    different_map g (kept (is_reached t) t.trail) (λ i j a b q. apart t st order top o i j (is_kept i a) (is_kept j b) q) (different_kept (is_reached t) t.trail st.0.trail.0),
    each_map_of (EntryNames (heap_of v.heap) (used v)) g (kept (is_reached t) t.trail)
        (each_map (λ e. EntryNames (heap_of t.heap) (used t) e × Is e) (λ e. EntryNames (heap_of v.heap) (used v) (g e)) named (kept (is_reached t) t.trail)
        (each_kept (EntryNames (heap_of t.heap) (used t)) (is_reached t) t.trail st.0.trail.1)),
  )
    where
      is_kept : (i : ℕ) → is_in i (kept (is_reached t) t.trail) ≡ true → Is i
      is_kept i e = (and_parts (is_reached t i) (is_in i t.trail) (sym (in_kept (is_reached t) t.trail i) ∙ e)).0

      named : (e : ℕ) → EntryNames (heap_of t.heap) (used t) e × Is e → EntryNames (heap_of v.heap) (used v) (g e)
      named e p = (
        below_used e p.1,
        unbound_moved (R t st order top o) g (heap_of t.heap) (heap_of v.heap) (moves t st order top o) e p.1 ∙ p.0.1,
        ap is_functor (arrives t st order top o e p.1) ∙ kind g (heap_of t.heap e) ∙ p.0.2,
      )

  tops_placed : (n k n' k' : ℕ) (cs : List Choice) → top n ≤ n' → length (kept (is_reached t) (take k t.trail)) ≤ k' → TopsFall n k cs → TopsFall n' k' (map (placed_choice order top t) cs)
  tops_placed n k n' k' [] a b w = tt
  tops_placed n k n' k' (c ∷ cs) a b w = (
    (let x = o.rising c.heap_top n w.0 in omega arith),
    (let x = kept_take (is_reached t) c.trail_top k t.trail w.1 in omega arith),
    tops_placed c.heap_top c.trail_top (top c.heap_top) (length (kept (is_reached t) (take c.trail_top t.trail))) cs (omega arith) (omega arith) w.2,
  )

  tops : TopsFall (used v) (length v.trail) v.choices
  tops = tops_placed (used t) (length t.trail) (used v) (length v.trail) t.choices
      (let a = o.most (used t) (omega arith) in let b = used_placed t st order top o in omega arith)
      (let a = kept_part (is_reached t) (length t.trail) t.trail in let b = length-map (kept (is_reached t) t.trail) g in omega arith)
      st.0.tops

  acyclic : Acyclic (heap_of v.heap)
  acyclic = acyclic_moved (is_reached t) g (heap_of t.heap) (heap_of v.heap) (moves t st order top o) st.0.acyclic from
    where
      from : (j : ℕ) → unbound (heap_of v.heap) j ≡ false → (i : ℕ) × Is i × (g i ≡ j)
      from j e =
          ⊎_elim (λ (lt : j < used v). (onto t st order top o).every j lt)
          (λ (le : used v ≤ j). absurd (both_ways (unbound (heap_of v.heap) j) e (ap (refers_to j) (heap_of_past v.heap j le) ∙ eq-eqb j j refl)))
          (cases_lt j (used v))

  -- a functor that a choice point sees has its arguments right after it, moved
  pub seen_near : (c : Choice) (i : ℕ) → Is i → (m : ℕ) → m ≤ arity_of (heap_of (seen_from c t.heap t.trail) i) → g (i + m) ≡ g i + m
  seen_near c i r m le = by (is_in i (drop c.trail_top t.trail)) (let e = ap arity_of (unbind_at t.heap (drop c.trail_top t.trail) i) in omega arith)
    where
      by : (b : Bool) → m ≤ arity_of (cond b (Reference i) (heap_of t.heap i)) → g (i + m) ≡ g i + m
      by true l = let z : i + m ≡ i = omega arith in ap g z ∙ omega arith
      by false l = o.neighbours i m r l

  closed : (c : Choice) → Among c t.choices → Closed v.heap v.trail (placed_choice order top t c)
  closed c n = record { below = below; saved = saved; older = older }
    where
      was : Closed t.heap t.trail c
      was = each_among (Closed t.heap t.trail) st.0.levels n

      low : c.heap_top ≤ used t
      low = each_among (λ d. d.heap_top ≤ used t) (tops_inside (used t) (length t.trail) t.choices st.0.tops) n

      stays : (i j : ℕ) → Is i → g i < top c.heap_top → LeadsBy i (heap_of (seen_from c t.heap t.trail) i) j → g j < top c.heap_top
      stays = each_among (λ d. (i j : ℕ) → Is i → g i < top d.heap_top → LeadsBy i (heap_of (seen_from d t.heap t.trail) i) j → g j < top d.heap_top) o.closed n

      below : (x j : ℕ) → x < top c.heap_top → LeadsBy x (heap_of (seen_from (placed_choice order top t c) v.heap v.trail) x) j → j < top c.heap_top
      below x j lt l =
          let inside : x < length order = let a = o.most c.heap_top low in omega arith in
          let i = source t st order top o x in
          let r = source_reached t st order top o x inside in
          let at = source_placed t st order top o x inside in
          let led = subst (λ y. LeadsBy y (heap_of (seen_from (placed_choice order top t c) v.heap v.trail) y) j) (sym at) l in
          let moved = subst (λ (d : Cell). LeadsBy (g i) d j) (seen_placed t st order top o c i r) led in
          let back = leads_back g (heap_of (seen_from c t.heap t.trail) i) i j (seen_near c i r) moved in
          let done = stays i back.0 r (omega arith) back.1 in
          let end = back.2 in
          omega arith

      saved : Each (λ w. (j : ℕ) → LeadsBy 0 w j → j < top c.heap_top) (map (relocate g) c.saved)
      saved = each_map_of (λ w. (j : ℕ) → LeadsBy 0 w j → j < top c.heap_top) (relocate g) c.saved
          (each_all (λ w. (j : ℕ) → LeadsBy 0 (relocate g w) j → j < top c.heap_top) c.saved (λ w m j l. one w (kept_word w m) (saved_leads c n w m) (each_among (λ x. (k : ℕ) → LeadsBy 0 x k → k < c.heap_top) was.saved m) j l))
        where
          kept_word : (w : Cell) → Among w c.saved → WordKeeps (heap_of t.heap) (used t) w
          kept_word w m = each_among (WordKeeps (heap_of t.heap) (used t)) (each_among (λ d. Each (WordKeeps (heap_of t.heap) (used t)) d.saved) st.0.registers.1 n) m

          one : (w : Cell) → WordKeeps (heap_of t.heap) (used t) w → ((j : ℕ) → LeadsBy 0 w j → Is j) → ((j : ℕ) → LeadsBy 0 w j → j < c.heap_top) → (j : ℕ) → LeadsBy 0 (relocate g w) j → j < top c.heap_top
          one (Reference y) k leads under j l = let a = o.below y c.heap_top (leads y (omega arith, omega arith)) (under y (omega arith, omega arith)) low in let b = l.1 in omega arith
          one (Pointer y) k leads under j l = let a = o.below y c.heap_top (leads y (omega arith, omega arith)) (under y (omega arith, omega arith)) low in let b = l.1 in omega arith
          one (Functor name arity) k leads under j l = absurd k
          one (Atom a) k leads under j l = let b = l.1 in absurd (omega arith)
          one (Integer z) k leads under j l = let b = l.1 in absurd (omega arith)

      older : Each (λ e. e < top c.heap_top) (take (length (kept (is_reached t) (take c.trail_top t.trail))) v.trail)
      older = subst (Each (λ e. e < top c.heap_top))
          (sym (take-map g (length (kept (is_reached t) (take c.trail_top t.trail))) (kept (is_reached t) t.trail) ∙ ap (map g) (take_kept (is_reached t) c.trail_top t.trail)))
          (each_map_of (λ e. e < top c.heap_top) g (kept (is_reached t) (take c.trail_top t.trail))
          (each_map (λ e. (e < c.heap_top) × Is e) (λ e. g e < top c.heap_top) (λ e p. o.below e c.heap_top p.1 p.0 low) (kept (is_reached t) (take c.trail_top t.trail))
          (each_kept (λ e. e < c.heap_top) (is_reached t) (take c.trail_top t.trail) was.older)))

  pub rules_placed : Rules v
  rules_placed = record {
    references = sound.references;
    pointers = sound.pointers;
    arguments = sound.arguments;
    registers = (
      words_keep t.registers register_leads st.0.registers.0,
      each_map_of (λ c. Each (WordKeeps (heap_of v.heap) (used v)) c.saved) (placed_choice order top t) t.choices
          (each_all (λ c. Each (WordKeeps (heap_of v.heap) (used v)) (placed_choice order top t c).saved) t.choices
          (λ c n. words_keep c.saved (saved_leads c n) (each_among (λ d. Each (WordKeeps (heap_of t.heap) (used t)) d.saved) st.0.registers.1 n))),
    );
    trail = entries;
    tops = tops;
    acyclic = acyclic;
    levels = each_map_of (Closed v.heap v.trail) (placed_choice order top t) t.choices (each_all (λ c. Closed v.heap v.trail (placed_choice order top t c)) t.choices closed);
  }

  pub used_reached : used v ≡ reached_count t
  used_reached = used_placed t st order top o ∙ count_order t st order top o

  few : used v ≤ 4096
  few = let a = used_reached in let b = count_at_most (is_reached t) (used t) in let c = st.1.cells in omega arith

  -- a moved word is in range
  ranged : (i : ℕ) (w : Cell) → in_range w ≡ true → ((j : ℕ) → LeadsBy i w j → Is j) → in_range (relocate g w) ≡ true
  ranged i (Reference n) e leads = let a = below_used n (leads n (omega arith, omega arith)) in let b = few in lt-ltb (g n) 4096 (omega arith)
  ranged i (Pointer n) e leads = let a = below_used n (leads n (omega arith, omega arith)) in let b = few in lt-ltb (g n) 4096 (omega arith)
  ranged i (Functor name arity) e leads = e
  ranged i (Atom a) e leads = e
  ranged i (Integer z) e leads = e

  words_ranged : (ws : List Cell) → ((w : Cell) → Among w ws → (j : ℕ) → LeadsBy 0 w j → Is j) → Each (λ w. in_range w ≡ true) ws → Each (λ w. in_range w ≡ true) (map (relocate g) ws)
  words_ranged ws leads k = each_map_of (λ w. in_range w ≡ true) (relocate g) ws (each_all (λ w. in_range (relocate g w) ≡ true) ws (λ w m. ranged 0 w (each_among (λ x. in_range x ≡ true) k m) (leads w m)))

  pub fits_placed : Fits v
  fits_placed = record {
    cells = few;
    entries = let a = length-map (kept (is_reached t) t.trail) g in let b = length_kept (is_reached t) t.trail in let c = st.1.entries in omega arith;
    points = let a = length-map t.choices (placed_choice order top t) in let b = st.1.points in omega arith;
    registers = length-map t.registers (relocate g) ∙ st.1.registers;
    saved = each_map_of (λ c. length c.saved ≡ 8) (placed_choice order top t) t.choices (each_map (λ c. length c.saved ≡ 8) (λ c. length (placed_choice order top t c).saved ≡ 8) (λ c e. length-map c.saved (relocate g) ∙ e) t.choices st.1.saved);
    heap_range = each_map_of (λ w. in_range w ≡ true) (λ i. relocate g (cell_at t i)) order
        (each_all (λ i. in_range (relocate g (cell_at t i)) ≡ true) order (λ i m. cell_range i (sym (o.members i) ∙ among_in i order m)));
    register_range = words_ranged t.registers register_leads st.1.register_range;
    saved_range = each_map_of (λ c. Each (λ w. in_range w ≡ true) c.saved) (placed_choice order top t) t.choices
        (each_all (λ c. Each (λ w. in_range w ≡ true) (placed_choice order top t c).saved) t.choices (λ c n. words_ranged c.saved (saved_leads c n) (each_among (λ d. Each (λ w. in_range w ≡ true) d.saved) st.1.saved_range n)));
  }
    where
      cell_range : (i : ℕ) → Is i → in_range (relocate g (cell_at t i)) ≡ true
      cell_range i r = ranged i (cell_at t i) (cell_ranged t st.1 i (onto_used i r)) (λ j l. reached_on t st order top o i j r l)
        where
          onto_used : (k : ℕ) → Is k → k < used t
          onto_used k e = reached_inside t st order top o k e
