-- What each step of a walk with merges does, for unifying and comparing alike: two structures meet, and the next two argument
-- cells are taken.
use Rattle.std.proofs.Common.{◌≡◌, ℕ, suc, ◌<◌, ◌≤◌, Bool, true, false, List, [], ◌∷◌, length, sym, refl, ap, subst, arith, Option, Some, None}
use Rattle.std.proofs.lemmas.Bool.{both_ways}
use Rattle.cells.specs.declared.cell.Cell.{Cell}
use Rattle.cells.specs.declared.cell.Cell.TheVariants.{Reference, Pointer}
use Rattle.tables.specs.Tables.{Tables, cell_at}
use Rattle.heaps.specs.Lists.{Each}
use Rattle.heaps.specs.Ends.{end}
use Rattle.heaps.specs.LevelLaws.{Stands, Keeps}
use Rattle.heaps.proofs.EachLaws.{each_map}
use Rattle.heaps.proofs.KeptWords.{cell_ranged, arity_small}
use Rattle.calls.specs.Pairs.{PairKeeps}
use Rattle.calls.specs.Unifying.{Pair, words, rows}
use Rattle.classes.specs.Merges.{Merge}
use Rattle.unifying.specs.Walking.{Run, Walk, StructuresMet, skips, joins, clashes, Draws, none_left, row_done, row_first, Inside, weight, Advanced, Underway, effort}
use Rattle.unifying.proofs.WordsMeet.{row_keeps, arguments_keep}

module _ {X : Type 0} {R : Run X} {no : X} (w : Walk X R no) (t : Tables) where
  -- Two words that end at structures have met.
  pub structures_advanced : (a b : Cell) (p q : ℕ) → Stands t → Keeps t a → Keeps t b → Keeps t (Pointer p) → end t a ≡ Pointer p → end t b ≡ Pointer q
      → {ms later : List Merge} {ps qs : List Pair} {yes : Bool} → StructuresMet t p q ms ps later qs yes → Advanced X R no t t a b ms ps later qs yes
  structures_advanced a b p q st ka kb kp ea eb {ms = ms} {ps = ps} (skips s) = record {
    on = λ e r x. w.skip t ms a b p q ps r ea eb s x;
    off = λ e. absurd (both_ways true e refl);
    keeps = λ k. k;
    room = omega arith;
    lighter = omega arith;
  }
  structures_advanced a b p q st ka kb kp ea eb {ms = ms} {ps = ps} (joins s f) = record {
    on = λ e r x. w.join t ms a b p q ps r ea eb s f x;
    off = λ e. absurd (both_ways true e refl);
    keeps = λ k. (arguments_keep t st a b ka kb p q ea eb f, k);
    room = omega arith;
    lighter = let small = arity_small (cell_at t p) (cell_ranged t st.1 p kp.0.0) in omega arith;
  }
  structures_advanced a b p q st ka kb kp ea eb {ms = ms} {ps = ps} (clashes s f) = record {
    on = λ e. absurd (both_ways false refl e);
    off = λ e. w.clash t ms a b p q ps ea eb s f;
    keeps = λ k. k;
    room = omega arith;
    lighter = omega arith;
  }

  -- With nothing left to draw the walk is done,
  pub drawn_none : (ms : List Merge) (r : X) {ps qs : List Pair} {o : Option (ℕ × ℕ)} → o ≡ None → Draws ps o qs → R t ms [] r → R t ms ps r
  drawn_none ms r e none_left x = x
  drawn_none ms r e (row_done {i = i} {j = j} {ps = ps} d) x = w.empty t ms i j ps r (drawn_none ms r e d x)
  drawn_none ms r e row_first x = absurd (let z : ◌≡◌ {A = ℕ} 0 1 = cc e in omega arith)

  -- and else the two cells that are drawn come next.
  pub drawn_run : (ms : List Merge) (r : X) (i j : ℕ) {ps qs : List Pair} {o : Option (ℕ × ℕ)} → o ≡ Some (i, j) → Draws ps o qs
      → R t ms (words (Reference i) (Reference j) ∷ qs) r → R t ms ps r
  drawn_run ms r i j e none_left x = absurd (let z : ◌≡◌ {A = ℕ} 0 1 = cc e in omega arith)
  drawn_run ms r i j e (row_done {i = m} {j = n} {ps = ps} d) x = w.empty t ms m n ps r (drawn_run ms r i j e d x)
  drawn_run ms r i j e (row_first {i = m} {j = n} {k = k} {ps = ps}) x =
      let same : ◌≡◌ {A = ℕ × ℕ} (m, n) (i, j) = cc e in
      let a = sym (ap (λ (x : ℕ × ℕ). x.0) same) in
      let b = sym (ap (λ (x : ℕ × ℕ). x.1) same) in
      w.row t ms m n k ps r (subst (λ y. R t ms (words (Reference m) (Reference y) ∷ rows (suc m) (suc n) k ∷ ps) r) b
      (subst (λ y. R t ms (words (Reference y) (Reference j) ∷ rows (suc m) (suc n) k ∷ ps) r) a x))

module _ (t : Tables) where
  pub drawn_keeps : (i j : ℕ) {ps qs : List Pair} {o : Option (ℕ × ℕ)} → o ≡ Some (i, j) → Draws ps o qs → Each (PairKeeps t) ps
      → PairKeeps t (words (Reference i) (Reference j)) × Each (PairKeeps t) qs
  drawn_keeps i j e none_left v = absurd (let z : ◌≡◌ {A = ℕ} 0 1 = cc e in omega arith)
  drawn_keeps i j e (row_done d) v = drawn_keeps i j e d v.1
  drawn_keeps i j e (row_first {i = m} {j = n} {k = k} {ps = ps}) v =
      let same : ◌≡◌ {A = ℕ × ℕ} (m, n) (i, j) = cc e in
      let a = ap (λ (x : ℕ × ℕ). x.0) same in
      let b = ap (λ (x : ℕ × ℕ). x.1) same in
      let x = row_keeps t m n k v.0 in
      (subst (λ y. PairKeeps t (words (Reference i) (Reference y))) b (subst (λ y. PairKeeps t (words (Reference y) (Reference n))) a x.0), (x.1, v.1))

  -- rows of argument cells in use are inside the memory
  pub pairs_inside : Stands t → (ps : List Pair) → Each (PairKeeps t) ps → Each Inside ps
  pairs_inside st ps v = each_map (PairKeeps t) Inside one ps v
    where
      one : (p : Pair) → PairKeeps t p → Inside p
      one (words a b) k = tt
      one (rows i j n) k = λ lt.
          let x = k 0 lt in
          let a = x.0.0.0 in
          let b = x.1.0.0 in
          let c = st.1.cells in
          (omega arith, omega arith)

pub drawn_fewer : {ps qs : List Pair} {o : Option (ℕ × ℕ)} → Draws ps o qs → length qs ≤ length ps
drawn_fewer none_left = omega arith
drawn_fewer (row_done d) = let x = drawn_fewer d in omega arith
drawn_fewer row_first = omega arith

pub drawn_lighter : {ps qs : List Pair} {o : Option (ℕ × ℕ)} (i j : ℕ) → o ≡ Some (i, j) → Draws ps o qs → weight qs < weight ps
drawn_lighter i j e none_left = absurd (let z : ◌≡◌ {A = ℕ} 0 1 = cc e in omega arith)
drawn_lighter i j e (row_done d) = let x = drawn_lighter i j e d in omega arith
drawn_lighter i j e row_first = omega arith

-- One turn of a walk: two cells are drawn, and then dealt with.
module _ {X : Type 0} {R : Run X} {no : X} (w : Walk X R no) (s : Tables) (first : List Merge) (start : List Pair) (t u : Tables) (ms later : List Merge) (ps qs rs : List Pair) (i j : ℕ) (yes : Bool)
    (under : Underway X R s first start t ms ps) (o : Option (ℕ × ℕ)) (some-drawn : o ≡ Some (i, j)) (drawn : Draws ps o qs)
    (done : Advanced X R no t u (Reference i) (Reference j) ms qs later rs yes) where
  pub turn_on : yes ≡ true → Underway X R s first start u later rs
  turn_on e = record {
    run = λ r x. under.run r (drawn_run w t ms r i j some-drawn drawn (done.on e r x));
    keep = done.keeps (drawn_keeps t i j some-drawn drawn under.keep).1;
    few = let a = done.room in let b = drawn_fewer drawn in let c = under.few in omega arith;
  }

  pub turn_off : yes ≡ false → R s first start no
  turn_off e = under.run no (drawn_run w t ms no i j some-drawn drawn (done.off e))

  pub turn_less : length ms < 4096 → length later < 4096 → effort later rs < effort ms ps
  turn_less x y = let a = done.lighter in let b = drawn_lighter i j some-drawn drawn in omega arith

-- The beginning: nothing is merged, and only the two words are to be done.
module _ {X : Type 0} {R : Run X} {no : X} (t u : Tables) (a b : Cell) {ms later : List Merge} {ps qs : List Pair} {yes : Bool} (bare : ms ≡ []) (none-due : ps ≡ [])
    (done : Advanced X R no t u a b ms ps later qs yes) where
  pub from_start : {r : X} → R t ms (words a b ∷ ps) r → R t [] (words a b ∷ []) r
  from_start {r} x = subst (λ (l : List Merge). R t l (words a b ∷ []) r) bare (subst (λ (l : List Pair). R t ms (words a b ∷ l) r) none-due x)

  pub begun : Underway X R u later qs u later qs
  begun = record {
    run = λ r x. x;
    keep = done.keeps (subst (Each (PairKeeps t)) (sym none-due) tt);
    few = let x = done.room in let y = ap length bare in let z = ap length none-due in omega arith;
  }
