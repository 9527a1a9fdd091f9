-- The rules hold again after a binding, and the tables still fit the memory.
use Rattle.std.proofs.Common.{◌≡◌, ℕ, zero, suc, ◌<◌, ◌≤◌, Bool, true, false, cond, ◌||◌, eqb, List, [], ◌∷◌, ◌++◌, length, take, drop, set, sym, refl, ap, ◌∙◌, subst, ap₂, arith, length-append, get_or-set_other}
use lib.Seq.{take-append-le, drop-append-le}
use Rattle.std.proofs.lemmas.Bool.{both_ways, eqb-true, eqb-false, ne_eqb, ltb-false}
use Rattle.cells.specs.declared.cell.Cell.{Cell}
use Rattle.cells.specs.declared.cell.Cell.TheVariants.{Reference}
use Rattle.cells.specs.Cells.{in_range}
use Rattle.tables.specs.Tables.{Choice, Tables, used}
use Rattle.heaps.specs.Lists.{Each, is_in, Different}
use Rattle.heaps.specs.Leads.{heap_of, LeadsBy, refers_to, unbound, is_functor}
use Rattle.heaps.specs.Spelling.{spell}
use Rattle.heaps.specs.Levels.{seen_from}
use Rattle.heaps.specs.Binding.{trailed, bind}
use Rattle.heaps.specs.Rules.{WordKeeps, EntryNames, TopsFall, Closed, Rules}
use Rattle.heaps.specs.SpellingLaws.{Bindable, RulesBind, FitsBind}
use Rattle.heaps.proofs.MemberLaws.{each_map, each_joined}
use Rattle.heaps.proofs.Pigeonhole.{pigeonhole}
use Rattle.heaps.proofs.WordKinds.{unbound_is, keeps_kinds}
use Rattle.heaps.proofs.BindLaws.{Replaced, used_bind, bind_replaces, now_bound}
use Rattle.heaps.proofs.SeenLaws.{unbind_at, in_joined, different_push}

each_two : {A : Type 0} (P Q R : A → Type 0) → ((a : A) → P a → Q a → R a) → (xs : List A) → Each P xs → Each Q xs → Each R xs
each_two P Q R f [] e d = tt
each_two P Q R f (x ∷ xs) e d = (f x e.0 d.0, each_two P Q R f xs e.1 d.1)

each_set : {A : Type 0} (P : A → Type 0) (xs : List A) (i : ℕ) (a : A) → Each P xs → P a → Each P (set xs i a)
each_set P [] i a e p = tt
each_set P (x ∷ xs) zero a e p = (p, e.1)
each_set P (x ∷ xs) (suc i) a e p = (e.0, each_set P xs i a e.1 p)

-- tops that never fall are bounded by the numbers in use
tops_within : (n m : ℕ) (ds : List Choice) → TopsFall n m ds → Each (λ d. (d.heap_top ≤ n) × (d.trail_top ≤ m)) ds
tops_within n m [] o = tt
tops_within n m (d ∷ ds) o =
    ((o.0, o.1), each_map _ _ (λ e p. let a = o.0 in let b = o.1 in (omega arith, omega arith)) ds (tops_within d.heap_top d.trail_top ds o.2))

tops_more : (n m k : ℕ) (ds : List Choice) → m ≤ k → TopsFall n m ds → TopsFall n k ds
tops_more n m k [] le o = tt
tops_more n m k (d ∷ ds) le o = let a = o.1 in (o.0, omega arith, o.2)

-- a cell that does not join the trail is above each heap top
above_tops : (x n m : ℕ) (ds : List Choice) → TopsFall n m ds → trailed ds x ≡ false → Each (λ d. d.heap_top ≤ x) ds
above_tops x n m [] o e = tt
above_tops x n m (d ∷ ds) o e =
    let a = ltb-false x d.heap_top e in
    (a, each_map _ _ (λ f p. let q = p.0 in omega arith) ds (tops_within d.heap_top d.trail_top ds o.2))

-- the trail after the binding, where the test says whether the cell joins it
abbrev joined : Tables → ℕ → Bool → List ℕ
joined t x b = cond b (t.trail ++ (x ∷ [])) t.trail

module _ (t : Tables) (x : ℕ) (w : Cell) (r : Rules t) (ok : Bindable t x w) where
  abbrev u : Tables
  u = bind t x w

  new : Replaced (heap_of t.heap) (heap_of u.heap) (used t) x (spell t.heap w)
  new = bind_replaces t x w r ok

  other : (i : ℕ) → eqb x i ≡ false → heap_of u.heap i ≡ heap_of t.heap i
  other i p = get_or-set_other t.heap x i w (Reference i) (λ q. eqb-false x i p (sym q))

  -- what a choice point sees below its heap top is as before
  seen_same : (b : Bool) (d : Choice) → d.trail_top ≤ length t.trail → (b ≡ false → d.heap_top ≤ x) → (i : ℕ) → i < d.heap_top
      → heap_of (seen_from d u.heap (joined t x b)) i ≡ heap_of (seen_from d t.heap t.trail) i
  seen_same b d le high i low =
      unbind_at u.heap (drop d.trail_top (joined t x b)) i ∙ by b high ∙ sym (unbind_at t.heap gone i)
    where
      gone : List ℕ
      gone = drop d.trail_top t.trail

      added : (a c : Bool) → eqb x i ≡ c → cond (a || (c || false)) (Reference i) (heap_of u.heap i) ≡ cond a (Reference i) (heap_of t.heap i)
      added true c q = refl
      added false true q = sym (subst (λ (j : ℕ). heap_of t.heap j ≡ Reference j) (eqb-true x i q) (unbound_is (heap_of t.heap) x ok.free))
      added false false q = other i q

      by : (b : Bool) → (b ≡ false → d.heap_top ≤ x)
          → cond (is_in i (drop d.trail_top (joined t x b))) (Reference i) (heap_of u.heap i) ≡ cond (is_in i gone) (Reference i) (heap_of t.heap i)
      by true high =
          ap (λ (a : Bool). cond a (Reference i) (heap_of u.heap i)) (ap (is_in i) (drop-append-le d.trail_top t.trail (x ∷ []) le) ∙ in_joined i gone (x ∷ []))
          ∙ added (is_in i gone) (eqb x i) refl
      by false high = ap (cond (is_in i gone) (Reference i)) (other i (ne_eqb x i (λ p. let a = high refl in omega arith)))

  closed_bind : (b : Bool) (d : Choice) → d.trail_top ≤ length t.trail → (b ≡ false → d.heap_top ≤ x) → Closed t.heap t.trail d → Closed u.heap (joined t x b) d
  closed_bind b d le high p = record {
    below = λ i j low l. p.below i j low (subst (λ (c : Cell). LeadsBy i c j) (seen_same b d le high i low) l);
    saved = p.saved;
    older = subst (Each (λ y. y < d.heap_top)) (sym (short b)) p.older;
  }
    where
      short : (b : Bool) → take d.trail_top (joined t x b) ≡ take d.trail_top t.trail
      short true = take-append-le d.trail_top t.trail (x ∷ []) le
      short false = refl

  levels_bind : (b : Bool) → trailed t.choices x ≡ b → Each (Closed u.heap (joined t x b)) t.choices
  levels_bind b e =
      each_two (λ d. (d.heap_top ≤ used t) × (d.trail_top ≤ length t.trail)) (λ d. (b ≡ false → d.heap_top ≤ x) × Closed t.heap t.trail d)
      (Closed u.heap (joined t x b)) (λ d o p. closed_bind b d o.1 p.0 p.1) t.choices
      (tops_within (used t) (length t.trail) t.choices r.tops) (with_high b e)
    where
      with_high : (b : Bool) → trailed t.choices x ≡ b → Each (λ d. (b ≡ false → d.heap_top ≤ x) × Closed t.heap t.trail d) t.choices
      with_high true e = each_map (Closed t.heap t.trail) _ (λ d p. (λ q. absurd (both_ways true q refl), p)) t.choices r.levels
      with_high false e =
          each_two (λ d. d.heap_top ≤ x) (Closed t.heap t.trail) _ (λ d p q. (λ z. p, q)) t.choices
          (above_tops x (used t) (length t.trail) t.choices r.tops e) r.levels

  abbrev Old : ℕ → Type 0
  Old = EntryNames (heap_of t.heap) (used t)

  abbrev New : ℕ → Type 0
  New = EntryNames (heap_of u.heap) (used t)

  entry_stays : (y : ℕ) → Old y → New y
  entry_stays y p = (p.0, test (eqb x y) refl, new.kinds y ∙ p.2)
    where
      test : (c : Bool) → eqb x y ≡ c → unbound (heap_of u.heap) y ≡ false
      test true e = subst (λ (j : ℕ). unbound (heap_of u.heap) j ≡ false) (eqb-true x y e) (now_bound t x w r ok)
      test false e = ap (refers_to y) (other y e) ∙ p.1

  entry_new : New x
  entry_new = (ok.in_use, now_bound t x w r ok, new.kinds x ∙ ap is_functor (unbound_is (heap_of t.heap) x ok.free))

  -- an unbound cell is in no trail
  not_in : (l : List ℕ) → Each Old l → is_in x l ≡ false
  not_in [] e = refl
  not_in (y ∷ ys) e =
      ap₂ ◌||◌ (ne_eqb y x (λ p. both_ways (unbound (heap_of t.heap) x) (subst (λ (j : ℕ). unbound (heap_of t.heap) j ≡ false) p e.0.1) ok.free)) (not_in ys e.1)

  trail_bind : (b : Bool) → Different (joined t x b) × Each New (joined t x b) × (length t.trail ≤ length (joined t x b))
  trail_bind true = (
    different_push t.trail x r.trail.0 (not_in t.trail r.trail.1),
    each_joined New t.trail (x ∷ []) (each_map Old New entry_stays t.trail r.trail.1) (entry_new, tt),
    let p = length-append t.trail (x ∷ []) in omega arith,
  )
  trail_bind false = (r.trail.0, each_map Old New entry_stays t.trail r.trail.1, omega arith)

  words_bind : (ws : List Cell) → Each (WordKeeps (heap_of t.heap) (used t)) ws → Each (WordKeeps (heap_of u.heap) (used t)) ws
  words_bind ws e = each_map _ _ (keeps_kinds (heap_of t.heap) (heap_of u.heap) (used t) new.kinds) ws e

  abbrev join : Bool
  join = trailed t.choices x

  pub rules_bound : Rules u
  rules_bound = record {
    references = rw (used_bind t x w r ok) new.sound.references;
    pointers = rw (used_bind t x w r ok) new.sound.pointers;
    arguments = rw (used_bind t x w r ok) new.sound.arguments;
    registers = rw (used_bind t x w r ok) (words_bind t.registers r.registers.0, each_map _ _ (λ c p. words_bind c.saved p) t.choices r.registers.1);
    trail = rw (used_bind t x w r ok) ((trail_bind join).0, (trail_bind join).1);
    tops = rw (used_bind t x w r ok) (tops_more (used t) (length t.trail) (length u.trail) t.choices (trail_bind join).2 r.tops);
    acyclic = new.acyclic;
    levels = levels_bind join refl;
  }

pub rules_bind : RulesBind
rules_bind t x w r ok = rules_bound t x w r ok

pub fits_bind : FitsBind
fits_bind t x w r f ok range = record {
  cells = let z = used_bind t x w r ok in let a = f.cells in omega arith;
  entries = let p = (rules_bound t x w r ok).trail in
      let k = pigeonhole (used (bind t x w)) (bind t x w).trail p.0 (each_map _ _ (λ e q. q.0) (bind t x w).trail p.1) in
      let z = used_bind t x w r ok in let a = f.cells in omega arith;
  points = f.points;
  registers = f.registers;
  saved = f.saved;
  heap_range = each_set (λ c. in_range c ≡ true) t.heap x w f.heap_range range;
  register_range = f.register_range;
  saved_range = f.saved_range;
}
