-- The scan of copying goes on until nothing is missing: exactly the reached cells are brought. So copying shows what a collector must.
use Rattle.std.proofs.Common.{◌≡◌, ℕ, zero, suc, ◌+◌, ◌<◌, ◌≤◌, Bool, true, false, cond, eqb, List, [], ◌∷◌, ◌++◌, length, sym, refl, ap, ◌∙◌, subst, ⊎_elim, arith, Option, Some, None}
use Rattle.std.proofs.lemmas.Bool.{both_ways, cases_lt, cases_eq, eqb-true, eq-eqb, or_left, or_right, or_cases}
use Rattle.cells.specs.declared.cell.Cell.{Cell}
use Rattle.tables.specs.Tables.{Tables, used, cell_at}
use Rattle.heaps.specs.Lists.{Among, here, further, is_in}
use Rattle.heaps.specs.Leads.{heap_of, first, many, LeadsBy}
use Rattle.heaps.specs.Spelling.{arity_of}
use Rattle.heaps.specs.Levels.{seen_from}
use Rattle.heaps.specs.Reached.{is_reached, roots, direct, onward}
use Rattle.heaps.specs.LevelLaws.{Stands}
use Rattle.heaps.proofs.CountLaws.{count_at_most}
use Rattle.heaps.proofs.ReachesLaws.{reaches_least}
use Rattle.heaps.proofs.ReachedUsed.{reached_used}
use Rattle.heaps.proofs.ReachedDecided.{reached_decided}
use Rattle.heaps.proofs.WordKinds.{argument_leads}
use Rattle.collectors.specs.Placing.{place_in}
use Rattle.collectors.specs.Copying.{bring, bring_from, bring_words, at, scanned, scan, copy_order}
use Rattle.collectors.specs.Orders.{Orders, CopiedShows}
use Rattle.collectors.proofs.PlaceLaws.{place_inside}
use Rattle.collectors.proofs.PlacedCount.{count_list}
use Rattle.collectors.proofs.PlacedRules.{each_all}
use Rattle.collectors.proofs.PlacedLevels.{placed_shows}
use Rattle.collectors.proofs.SlideOrder.{seen_on}
use Rattle.collectors.proofs.CopyOrder.{Brought, brought_none, Extends, extends_same, extends_on, extends_in, Bringing, bring_one}

-- What stands at a place.

at_in : (xs : List ℕ) (k x : ℕ) → at xs k ≡ Some x → is_in x xs ≡ true
at_in [] k x e = absurd (let z : ◌≡◌ {A = ℕ} 0 1 = cc in omega arith)
at_in (y ∷ ys) zero x e = let q : y ≡ x = cc in or_left (eqb y x) (is_in x ys) (eq-eqb y x q)
at_in (y ∷ ys) (suc k) x e = or_right (eqb y x) (is_in x ys) (at_in ys k x e)

at_none : (xs : List ℕ) (k : ℕ) → at xs k ≡ None → length xs ≤ k
at_none [] k e = omega arith
at_none (y ∷ ys) zero e = absurd (let z : ◌≡◌ {A = ℕ} 0 1 = cc in omega arith)
at_none (y ∷ ys) (suc k) e = let l = at_none ys k e in omega arith

at_place : (xs : List ℕ) (i : ℕ) → is_in i xs ≡ true → at xs (place_in xs i) ≡ Some i
at_place [] i e = absurd (both_ways false refl e)
at_place (x ∷ xs) i e = by (eqb x i) refl (at_place xs i)
  where
    by : (b : Bool) → eqb x i ≡ b → (is_in i xs ≡ true → at xs (place_in xs i) ≡ Some i) → at (x ∷ xs) (cond b 0 (suc (place_in xs i))) ≡ Some i
    by true q r = ap Some (eqb-true x i q)
    by false q r = r (⊎_elim (λ p. absurd (both_ways (eqb x i) q p)) (λ p. p) (or_cases (eqb x i) (is_in i xs) e))

at_left : (xs zs : List ℕ) (k x y : ℕ) → at xs k ≡ Some y → at (xs ++ zs) k ≡ Some x → at xs k ≡ Some x
at_left [] zs k x y e q = absurd (let z : ◌≡◌ {A = ℕ} 0 1 = cc in omega arith)
at_left (w ∷ xs) zs zero x y e q = q
at_left (w ∷ xs) zs (suc k) x y e q = at_left xs zs k x y e q

at_some : (xs : List ℕ) (k : ℕ) → k < length xs → (y : ℕ) × (at xs k ≡ Some y)
at_some [] k lt = absurd (omega arith)
at_some (x ∷ xs) zero lt = (x, refl)
at_some (x ∷ xs) (suc k) lt = at_some xs k (omega arith)

-- what stands at a place is among the first
at_inside : (xs : List ℕ) (k x : ℕ) → at xs k ≡ Some x → k < length xs
at_inside [] k x e = absurd (let z : ◌≡◌ {A = ℕ} 0 1 = cc in omega arith)
at_inside (y ∷ ys) zero x e = omega arith
at_inside (y ∷ ys) (suc k) x e = let l = at_inside ys k x e in omega arith

bringing_on : (t : Tables) (xs ys zs : List ℕ) → Bringing t xs ys → Bringing t ys zs → Bringing t xs zs
bringing_on t xs ys zs a b = record { brought = b.brought; extends = extends_on xs ys zs a.extends b.extends }

module _ (t : Tables) (st : Stands t) where
  abbrev p : ℕ → Bool
  p = is_reached t

  -- neighbouring cells
  bring_from_lem : (xs : List ℕ) → Brought t xs → (n m : ℕ) → ((j : ℕ) → n ≤ j → j < n + m → p j ≡ true)
      → Bringing t xs (bring_from t xs n m) × ((j : ℕ) → n ≤ j → j < n + m → is_in j (bring_from t xs n m) ≡ true)
  bring_from_lem xs b n zero all = (record { brought = b; extends = extends_same xs }, λ j le lt. absurd (omega arith))
  bring_from_lem xs b n (suc m) all =
      let one = bring_one t st xs b n (all n (omega arith) (omega arith)) in
      let rest = bring_from_lem (bring t xs n) one.0.brought (suc n) m (λ j le lt. all j (omega arith) (omega arith)) in (
        bringing_on t xs (bring t xs n) (bring_from t (bring t xs n) (suc n) m) one.0 rest.0,
        λ j le lt.
            ⊎_elim (λ (q : j ≡ n). subst (λ x. is_in x (bring_from t (bring t xs n) (suc n) m) ≡ true) (sym q) (extends_in (bring t xs n) (bring_from t (bring t xs n) (suc n) m) rest.0.extends n one.1))
            (λ (q : j ≡ n → ⊥). rest.1 j (omega (arith, q)) (omega arith)) (cases_eq j n),
      )

  -- what words lead to
  bring_words_lem : (xs : List ℕ) → Brought t xs → (ws : List Cell) → ((w : Cell) → Among w ws → (j : ℕ) → LeadsBy 0 w j → p j ≡ true)
      → Bringing t xs (bring_words t xs ws) × ((w : Cell) → Among w ws → (j : ℕ) → LeadsBy 0 w j → is_in j (bring_words t xs ws) ≡ true)
  bring_words_lem xs b [] all = (record { brought = b; extends = extends_same xs }, none_there)
    where
      none_there : (w : Cell) → Among w [] → (j : ℕ) → LeadsBy 0 w j → is_in j xs ≡ true
      none_there w m j l = elim m [ ]
  bring_words_lem xs b (v ∷ ws) all =
      let one = bring_from_lem xs b (first 0 v) (many v) (λ j le lt. all v here j (le, lt)) in
      let ys = bring_from t xs (first 0 v) (many v) in
      let rest = bring_words_lem ys one.0.brought ws (λ w m. all w (further m)) in
      (bringing_on t xs ys (bring_words t ys ws) one.0 rest.0, both ys (bring_words t ys ws) rest.0.extends one.1 rest.1)
    where
      both : (ys zs : List ℕ) → Extends ys zs → ((j : ℕ) → first 0 v ≤ j → j < first 0 v + many v → is_in j ys ≡ true)
          → ((w : Cell) → Among w ws → (j : ℕ) → LeadsBy 0 w j → is_in j zs ≡ true) → (w : Cell) → Among w (v ∷ ws) → (j : ℕ) → LeadsBy 0 w j → is_in j zs ≡ true
      both ys zs x here_in rest w here j l = extends_in ys zs x j (here_in j l.0 l.1)
      both ys zs x here_in rest w (further m) j l = rest w m j l

  -- the cells at the first k places lead to cells that are brought
  abbrev Done : ℕ → List ℕ → Type 0
  Done k xs = (q x : ℕ) → q < k → at xs q ≡ Some x → (j : ℕ) → LeadsBy x (cell_at t x) j → is_in j xs ≡ true

  leads_on : (i j : ℕ) → p i ≡ true → LeadsBy i (cell_at t i) j → p j ≡ true
  leads_on i j e l = (reached_decided t st.0 j).1 (onward ((reached_decided t st.0 i).0 e) l)

  long : (xs : List ℕ) → Brought t xs → length xs ≤ used t
  long xs b =
      let a = count_list xs (used t) b.different (λ x e. reached_used t st.0 x ((reached_decided t st.0 x).0 (b.reached x e))) in
      let c = count_at_most (λ k. is_in k xs) (used t) in
      omega arith

  -- so many places are at most scanned; at the end there is none left
  scan_done : (g k : ℕ) (xs : List ℕ) → Brought t xs → Done k xs → used t ≤ k + g → Bringing t xs (scan g t k xs) × Done (length (scan g t k xs)) (scan g t k xs)
  scan_done zero k xs b d le = (record { brought = b; extends = extends_same xs }, λ q x lt e. d q x (let l = long xs b in omega arith) e)
  scan_done (suc g) k xs b d le = by (at xs k) refl (λ ys c e. scan_done g (suc k) ys c e (omega arith))
    where
      by : (o : Option ℕ) → at xs k ≡ o → ((ys : List ℕ) → Brought t ys → Done (suc k) ys → Bringing t ys (scan g t (suc k) ys) × Done (length (scan g t (suc k) ys)) (scan g t (suc k) ys))
          → Bringing t xs (scanned (scan g t (suc k)) t xs o) × Done (length (scanned (scan g t (suc k)) t xs o)) (scanned (scan g t (suc k)) t xs o)
      by None e rest = (record { brought = b; extends = extends_same xs }, λ q x lt f. d q x (let l = at_none xs k e in omega arith) f)
      by (Some i) e rest =
          let r = b.reached i (at_in xs k i e) in
          let one = bring_from_lem xs b (first i (cell_at t i)) (many (cell_at t i)) (λ j u w. leads_on i j r (u, w)) in
          let ys = bring_from t xs (first i (cell_at t i)) (many (cell_at t i)) in
          let on = rest ys one.0.brought (next ys one.0.extends one.1) in
          (bringing_on t xs ys (scan g t (suc k) ys) one.0 on.0, on.1)
        where
          next : (ys : List ℕ) → Extends xs ys → ((j : ℕ) → first i (cell_at t i) ≤ j → j < first i (cell_at t i) + many (cell_at t i) → is_in j ys ≡ true) → Done (suc k) ys
          next ys x now q w lt f j l =
              let inside : q < length xs = let a = at_inside xs k i e in omega arith in
              let old = at_some xs q inside in
              let same = at_left xs x.0 q w old.0 old.1 (subst (λ (zs : List ℕ). at zs q ≡ Some w) x.1 f) in
              ⊎_elim (λ (a : q < k). extends_in xs ys x j (d q w a same j l))
              (λ (a : k ≤ q).
              let here-at : at xs k ≡ Some w = subst (λ n. at xs n ≡ Some w) (let z : q ≡ k = omega arith in z) same in
              let i-is : i ≡ w = cc in
              let l' = subst (λ y. LeadsBy y (cell_at t y) j) (sym i-is) l in
              now j l'.0 l'.1)
              (cases_lt q k)

  root_leads : (w : Cell) → Among w (roots t) → (j : ℕ) → LeadsBy 0 w j → p j ≡ true
  root_leads w m j l = (reached_decided t st.0 j).1 (direct m l)

  abbrev order : List ℕ
  order = copy_order t

  begun : Bringing t [] (bring_words t [] (roots t)) × ((w : Cell) → Among w (roots t) → (j : ℕ) → LeadsBy 0 w j → is_in j (bring_words t [] (roots t)) ≡ true)
  begun = bring_words_lem [] (brought_none t) (roots t) root_leads

  ended : Bringing t (bring_words t [] (roots t)) order × Done (length order) order
  ended = scan_done (used t) 0 (bring_words t [] (roots t)) begun.0.brought (λ q x lt e. absurd (omega arith)) (omega arith)

  whole : (i j : ℕ) → is_in i order ≡ true → LeadsBy i (cell_at t i) j → is_in j order ≡ true
  whole i j e l = ended.1 (place_in order i) i (place_inside order i e) (at_place order i e) j l

  members : (i : ℕ) → is_in i order ≡ p i
  members i = by (p i) refl (is_in i order) refl
    where
      found : p i ≡ true → is_in i order ≡ true
      found e = (reaches_least (heap_of t.heap) (roots t)).1 (λ k. is_in k order)
          (record {
            starts = λ w j m l. extends_in (bring_words t [] (roots t)) order ended.0.extends j (begun.1 w m j l);
            goes_on = λ a j q l. whole a j q l;
          }) i ((reached_decided t st.0 i).0 e)

      by : (b : Bool) → p i ≡ b → (c : Bool) → is_in i order ≡ c → is_in i order ≡ p i
      by true e c q = found e ∙ sym e
      by false e true q = absurd (both_ways (p i) e (ended.0.brought.reached i q))
      by false e false q = q ∙ sym e

  near : (i m : ℕ) → p i ≡ true → m ≤ arity_of (cell_at t i) → place_in order (i + m) ≡ place_in order i + m
  near i zero e le = let z : i + 0 ≡ i = omega arith in ap (place_in order) z ∙ omega arith
  near i (suc m) e le =
      let before = near i m e (omega arith) in
      let there = argument i m e (omega arith) in
      let n = ended.0.brought.next (i + m) (members (i + m) ∙ there) (subst (λ x. p x ≡ true) (let z : i + suc m ≡ suc (i + m) = omega arith in z) (argument i (suc m) e le)) in
      let z : i + suc m ≡ suc (i + m) = omega arith in
      ap (place_in order) z ∙ n.1 ∙ (let w : suc (place_in order (i + m)) ≡ place_in order i + suc m = omega arith in w)
    where
      argument : (a k : ℕ) → p a ≡ true → k ≤ arity_of (cell_at t a) → p (a + k) ≡ true
      argument a zero q l = subst (λ x. p x ≡ true) (let z : a ≡ a + 0 = omega arith in z) q
      argument a (suc k) q l = leads_on a (a + suc k) q (argument_leads a (a + suc k) (cell_at t a) (omega arith) (omega arith))

  pub copy_orders : Orders t order (λ a. length order)
  copy_orders = record {
    members = members;
    different = ended.0.brought.different;
    neighbours = near;
    rising = λ a b le. omega arith;
    most = λ a le. omega arith;
    below = λ i a e lt le. place_inside order i (members i ∙ e);
    closed = each_all (λ c. (i j : ℕ) → p i ≡ true → place_in order i < length order → LeadsBy i (heap_of (seen_from c t.heap t.trail) i) j → place_in order j < length order) t.choices
        (λ c n i j e lt l. place_inside order j (members j ∙ seen_on t st c i j e l));
  }

pub copied_shows : CopiedShows
copied_shows t st = placed_shows t (copy_order t) (λ a. length (copy_order t)) st (copy_orders t st)
