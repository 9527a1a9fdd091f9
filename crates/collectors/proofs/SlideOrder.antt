-- Sliding keeps the order of cells: a kept cell is placed at the number of kept cells before it. So it shows what a collector must.
use Rattle.std.proofs.Common.{◌≡◌, ℕ, zero, suc, ◌+◌, ◌-◌, ◌<◌, ◌≤◌, Bool, true, false, cond, ◌&&◌, eqb, List, ◌∷◌, length, drop, sym, refl, ap, ◌∙◌, subst, ⊎_elim, arith}
use Rattle.std.proofs.lemmas.Bool.{both_ways, cases_lt, eqb-true, eqb-false, ne_eqb, or_left, or_right, or_from}
use Rattle.cells.specs.declared.cell.Cell.{Cell}
use Rattle.cells.specs.declared.cell.Cell.TheVariants.{Reference}
use Rattle.tables.specs.Tables.{Choice, Tables, used, cell_at}
use Rattle.marks.specs.Sets.{count_below}
use Rattle.heaps.specs.Lists.{Among, is_in, Different}
use Rattle.heaps.specs.Leads.{heap_of, LeadsBy}
use Rattle.heaps.specs.Spelling.{arity_of}
use Rattle.heaps.specs.Levels.{seen_from}
use Rattle.heaps.specs.Reached.{is_reached, onward}
use Rattle.heaps.specs.Rules.{Closed}
use Rattle.heaps.specs.LevelLaws.{Stands}
use Rattle.heaps.proofs.CountLaws.{count_same}
use Rattle.heaps.proofs.MemberLaws.{each_among}
use Rattle.heaps.proofs.SeenLaws.{unbind_at}
use Rattle.heaps.proofs.WordKinds.{argument_leads}
use Rattle.heaps.proofs.ReachedUsed.{reached_used}
use Rattle.heaps.proofs.ReachedDecided.{reached_decided}
use Rattle.collectors.specs.Placing.{numbers, kept, place_in}
use Rattle.collectors.specs.Sliding.{slide_order}
use Rattle.collectors.specs.Orders.{Orders, SlidShows}
use Rattle.collectors.proofs.PlaceLaws.{in_kept, different_kept}
use Rattle.collectors.proofs.PlacedCount.{count_list}
use Rattle.collectors.proofs.PlacedRules.{each_all, tops_inside}
use Rattle.collectors.proofs.PlacedLevels.{placed_shows}

-- Numbers from a on.

pub in_numbers : (a m i : ℕ) → a ≤ i → i < a + m → is_in i (numbers a m) ≡ true
in_numbers a zero i le lt = absurd (omega arith)
in_numbers a (suc m) i le lt = by (eqb a i) refl (λ ne. in_numbers (suc a) m i (omega (arith, ne)) (omega arith))
  where
    by : (b : Bool) → eqb a i ≡ b → ((a ≡ i → ⊥) → is_in i (numbers (suc a) m) ≡ true) → is_in i (numbers a (suc m)) ≡ true
    by true q rest = or_left (eqb a i) (is_in i (numbers (suc a) m)) q
    by false q rest = or_right (eqb a i) (is_in i (numbers (suc a) m)) (rest (eqb-false a i q))

not_before : (a m i : ℕ) → i < a → is_in i (numbers a m) ≡ false
not_before a zero i lt = refl
not_before a (suc m) i lt = or_from (eqb a i) (is_in i (numbers (suc a) m)) (ne_eqb a i (λ e. omega arith)) (not_before (suc a) m i (omega arith))

pub different_numbers : (a m : ℕ) → Different (numbers a m)
different_numbers a zero = tt
different_numbers a (suc m) = (not_before (suc a) m a (omega arith), different_numbers (suc a) m)

-- Counting.

module _ (p : ℕ → Bool) where
  count_in : (i : ℕ) → p i ≡ true → count_below p (suc i) ≡ suc (count_below p i)
  unfolding count_below
  count_in i e = ap (λ (b : Bool). count_below p i + cond b 1 0) e ∙ (let z : count_below p i + 1 ≡ suc (count_below p i) = omega arith in z)

  count_out : (i : ℕ) → p i ≡ false → count_below p (suc i) ≡ count_below p i
  unfolding count_below
  count_out i e = ap (λ (b : Bool). count_below p i + cond b 1 0) e ∙ (let z : count_below p i + 0 ≡ count_below p i = omega arith in z)

  count_zero : count_below p 0 ≡ 0
  unfolding count_below
  count_zero = refl

  count_more : (a d : ℕ) → count_below p a ≤ count_below p (a + d)
  count_more a zero = let z : a + 0 ≡ a = omega arith in let e = ap (count_below p) z in omega arith
  count_more a (suc d) =
      let z : a + suc d ≡ suc (a + d) = omega arith in
      let e = ap (count_below p) z in
      let before = count_more a d in
      by (p (a + d)) refl before e
    where
      by : (b : Bool) → p (a + d) ≡ b → count_below p a ≤ count_below p (a + d) → count_below p (a + suc d) ≡ count_below p (suc (a + d)) → count_below p a ≤ count_below p (a + suc d)
      by true q l e = let s = count_in (a + d) q in omega arith
      by false q l e = let s = count_out (a + d) q in omega arith

  count_rises : (a b : ℕ) → a ≤ b → count_below p a ≤ count_below p b
  count_rises a b le = subst (λ k. count_below p a ≤ count_below p k) (let z : a + (b - a) ≡ b = omega arith in z) (count_more a (b - a))

  -- a run of members
  count_run : (i m : ℕ) → ((k : ℕ) → k < m → p (i + k) ≡ true) → count_below p (i + m) ≡ count_below p i + m
  count_run i zero all = let z : i + 0 ≡ i = omega arith in ap (count_below p) z ∙ omega arith
  count_run i (suc m) all =
      let z : i + suc m ≡ suc (i + m) = omega arith in
      let one = count_in (i + m) (all m (omega arith)) in
      let rest = count_run i m (λ k lt. all k (omega arith)) in
      ap (count_below p) z ∙ omega arith

  -- a member is placed at the number of members before it
  place_kept : (a m i : ℕ) → p i ≡ true → a ≤ i → i < a + m → place_in (kept p (numbers a m)) i + count_below p a ≡ count_below p i
  place_kept a zero i e le lt = absurd (omega arith)
  place_kept a (suc m) i e le lt = by (p a) refl (eqb a i) refl (λ ne. place_kept (suc a) m i e (omega (arith, ne)) (omega arith))
    where
      by : (b : Bool) → p a ≡ b → (c : Bool) → eqb a i ≡ c → ((a ≡ i → ⊥) → place_in (kept p (numbers (suc a) m)) i + count_below p (suc a) ≡ count_below p i)
          → place_in (cond b (a ∷ kept p (numbers (suc a) m)) (kept p (numbers (suc a) m))) i + count_below p a ≡ count_below p i
      by true q true r rest =
          let z : cond (eqb a i) 0 (suc (place_in (kept p (numbers (suc a) m)) i)) ≡ 0 = ap (λ c. cond c 0 (suc (place_in (kept p (numbers (suc a) m)) i))) r in
          let same = ap (count_below p) (eqb-true a i r) in
          omega arith
      by true q false r rest =
          let z : cond (eqb a i) 0 (suc (place_in (kept p (numbers (suc a) m)) i)) ≡ suc (place_in (kept p (numbers (suc a) m)) i) = ap (λ c. cond c 0 (suc (place_in (kept p (numbers (suc a) m)) i))) r in
          let one = count_in a q in
          let on = rest (eqb-false a i r) in
          omega arith
      by false q c r rest =
          let ne : a ≡ i → ⊥ = λ s. both_ways (p a) q (ap p s ∙ e) in
          let none = count_out a q in
          let on = rest ne in
          omega arith

module _ (t : Tables) (st : Stands t) where
  abbrev p : ℕ → Bool
  p = is_reached t

  abbrev order : List ℕ
  order = slide_order t

  inside : (i : ℕ) → p i ≡ true → i < used t
  inside i e = reached_used t st.0 i ((reached_decided t st.0 i).0 e)

  on : (i j : ℕ) → p i ≡ true → LeadsBy i (cell_at t i) j → p j ≡ true
  on i j e l = (reached_decided t st.0 j).1 (onward ((reached_decided t st.0 i).0 e) l)

  members : (i : ℕ) → is_in i order ≡ p i
  members i = in_kept p (numbers 0 (used t)) i ∙ by (p i) refl
    where
      by : (b : Bool) → p i ≡ b → (p i && is_in i (numbers 0 (used t))) ≡ p i
      by true e = ap (λ b. b && is_in i (numbers 0 (used t))) e ∙ in_numbers 0 (used t) i (omega arith) (let l = inside i e in omega arith) ∙ sym e
      by false e = ap (λ b. b && is_in i (numbers 0 (used t))) e ∙ sym e

  place : (i : ℕ) → p i ≡ true → place_in order i ≡ count_below p i
  place i e = let a = place_kept p 0 (used t) i e (omega arith) (let l = inside i e in omega arith) in let z = count_zero p in omega arith

  different : Different order
  different = different_kept p (numbers 0 (used t)) (different_numbers 0 (used t))

  long : length order ≡ count_below p (used t)
  long = sym (count_list order (used t) different (λ x e. inside x (sym (members x) ∙ e))) ∙ count_same (λ k. is_in k order) p (used t) (λ k lt. members k)

  argument_reached : (i m : ℕ) → p i ≡ true → m ≤ arity_of (cell_at t i) → p (i + m) ≡ true
  argument_reached i zero e le = subst (λ k. p k ≡ true) (let z : i ≡ i + 0 = omega arith in z) e
  argument_reached i (suc m) e le = on i (i + suc m) e (argument_leads i (i + suc m) (cell_at t i) (omega arith) (omega arith))

  neighbours : (i m : ℕ) → p i ≡ true → m ≤ arity_of (cell_at t i) → place_in order (i + m) ≡ place_in order i + m
  neighbours i m e le = place (i + m) (argument_reached i m e le) ∙ count_run p i m (λ k lt. argument_reached i k e (omega arith)) ∙ ap (λ n. n + m) (sym (place i e))

  below : (i a : ℕ) → p i ≡ true → i < a → a ≤ used t → place_in order i < count_below p a
  below i a e lt le = let x = place i e in let y = count_in p i e in let z = count_rises p (suc i) a (omega arith) in omega arith

  -- what a choice point sees of a reached cell leads to reached cells
  pub seen_on : (c : Choice) (i j : ℕ) → p i ≡ true → LeadsBy i (heap_of (seen_from c t.heap t.trail) i) j → p j ≡ true
  seen_on c i j e l = by (is_in i (drop c.trail_top t.trail)) (subst (λ (d : Cell). LeadsBy i d j) (unbind_at t.heap (drop c.trail_top t.trail) i) l)
    where
      by : (b : Bool) → LeadsBy i (cond b (Reference i) (cell_at t i)) j → p j ≡ true
      by true q = let a = q.0 in let b = q.1 in subst (λ k. p k ≡ true) (let z : i ≡ j = omega arith in z) e
      by false q = on i j e q

  closed : (c : Choice) → Among c t.choices → (i j : ℕ) → p i ≡ true → place_in order i < count_below p c.heap_top → LeadsBy i (heap_of (seen_from c t.heap t.trail) i) j
      → place_in order j < count_below p c.heap_top
  closed c n i j e lt l = below j c.heap_top (seen_on c i j e l) ((each_among (Closed t.heap t.trail) st.0.levels n).below i j low l) top
    where
      top : c.heap_top ≤ used t
      top = each_among (λ d. d.heap_top ≤ used t) (tops_inside (used t) (length t.trail) t.choices st.0.tops) n

      low : i < c.heap_top
      low = ⊎_elim (λ (q : i < c.heap_top). q) (λ (q : c.heap_top ≤ i). let a = count_rises p c.heap_top i q in let b = place i e in absurd (omega arith)) (cases_lt i c.heap_top)

  pub slide_orders : Orders t order (count_below p)
  slide_orders = record {
    members = members;
    different = different;
    neighbours = neighbours;
    rising = count_rises p;
    most = λ a le. let x = count_rises p a (used t) le in let y = long in omega arith;
    below = below;
    closed = each_all (λ c. (i j : ℕ) → p i ≡ true → place_in order i < count_below p c.heap_top → LeadsBy i (heap_of (seen_from c t.heap t.trail) i) j → place_in order j < count_below p c.heap_top) t.choices closed;
  }

pub slid_shows : SlidShows
slid_shows t st = placed_shows t (slide_order t) (count_below (is_reached t)) st (slide_orders t st)
