-- Early reset takes entries off stretch by stretch, from the newest to the oldest. An entry goes only where nothing newer reaches its
-- cell, so no level loses a binding that it sees.
use Rattle.std.proofs.Common.{◌≡◌, ℕ, zero, suc, ◌-◌, ◌≤◌, Bool, true, false, cond, not, ◌&&◌, ◌||◌, eqb, ◌⊎◌, List, [], ◌∷◌, ◌++◌, map, length, take, drop, sym, refl, ap, ◌∙◌, subst, ap₂, inl, inr, ⊎_elim, arith}
use Rattle.std.proofs.lemmas.List.{take_all}
use Rattle.std.proofs.lemmas.Bool.{both_ways, eqb-true, eq-eqb, and_parts, and_from, or_left, or_right, or_cases}
use Rattle.cells.specs.declared.cell.Cell.{Cell}
use Rattle.cells.specs.declared.cell.Cell.TheVariants.{Reference}
use Rattle.tables.specs.Tables.{Choice, Tables, used, with_tops}
use Rattle.heaps.specs.Lists.{Each, Among, here, further, is_in, Different}
use Rattle.heaps.specs.Leads.{Heap, heap_of, LeadsBy}
use Rattle.heaps.specs.Levels.{unbind_all, seen_from}
use Rattle.heaps.specs.Reached.{Reaches, direct, onward}
use Rattle.heaps.specs.Rules.{WordKeeps, TopsFall}
use Rattle.heaps.specs.LevelLaws.{Stands}
use Rattle.heaps.proofs.EachLaws.{each_map, each_append}
use Rattle.heaps.proofs.MemberLaws.{among_left, among_right}
use Rattle.heaps.proofs.SeenLaws.{unbind_at, length_unbind, in_joined}
use Rattle.heaps.proofs.ReachesLaws.{reaches_in}
use Rattle.heaps.proofs.ReachedDecided.{words_decided}
use Rattle.collectors.specs.Placing.{kept}
use Rattle.collectors.specs.Resetting.{Left, marked, stretch, reset_below, reset}
use Rattle.collectors.specs.Loosening.{loose_choice, Loosens, Unseen}
use Rattle.collectors.specs.LayerLaws.{ResetLayered}
use Rattle.collectors.proofs.PlaceLaws.{in_kept, kept_append}
use Rattle.collectors.proofs.LooseRules.{in_dropped, word, rules_loose}
use Rattle.collectors.proofs.LooseLevels.{loose_layered}

kept_same : (p q : ℕ → Bool) (xs : List ℕ) → ((x : ℕ) → Among x xs → p x ≡ q x) → kept p xs ≡ kept q xs
kept_same p q [] same = refl
kept_same p q (x ∷ xs) same = ap₂ (λ (b : Bool) (l : List ℕ). cond b (x ∷ l) l) (same x here) (kept_same p q xs (λ y m. same y (further m)))

take_split : (n m : ℕ) (xs : List ℕ) → n ≤ m → take m xs ≡ take n xs ++ take (m - n) (drop n xs)
take_split zero m xs le = ap (λ k. take k xs) (let z : m ≡ m - 0 = omega arith in z)
take_split (suc n) zero xs le = absurd (omega arith)
take_split (suc n) (suc m) [] le = nothing (suc m - suc n)
  where
    nothing : (k : ℕ) → [] ≡ take {A = ℕ} k []
    nothing zero = refl
    nothing (suc k) = refl
take_split (suc n) (suc m) (x ∷ xs) le = ap (λ l. x ∷ l) (take_split n m xs (omega arith) ∙ ap (λ k. take n xs ++ take k (drop n xs)) (let z : m - n ≡ suc m - suc n = omega arith in z))

in_taken : (n m : ℕ) (es : List ℕ) → is_in m (take n es) ≡ true → is_in m es ≡ true
in_taken zero m es e = absurd (both_ways false refl e)
in_taken (suc n) m [] e = e
in_taken (suc n) m (x ∷ es) e =
    ⊎_elim (λ p. or_left (eqb x m) (is_in m es) p) (λ p. or_right (eqb x m) (is_in m es) (in_taken n m es p)) (or_cases (eqb x m) (is_in m (take n es)) e)

drop_less : (n m i : ℕ) (es : List ℕ) → n ≤ m → is_in i (drop m es) ≡ true → is_in i (drop n es) ≡ true
drop_less zero m i es le e = in_dropped m i es e
drop_less (suc n) zero i es le e = absurd (omega arith)
drop_less (suc n) (suc m) i [] le e = e
drop_less (suc n) (suc m) i (x ∷ es) le e = drop_less n m i es (omega arith) e

different_take : (n : ℕ) (xs : List ℕ) → Different xs → Different (take n xs)
different_take zero xs d = tt
different_take (suc n) [] d = tt
different_take (suc n) (x ∷ xs) d = (by (is_in x (take n xs)) refl, different_take n xs d.1)
  where
    by : (b : Bool) → is_in x (take n xs) ≡ b → is_in x (take n xs) ≡ false
    by true e = absurd (both_ways (is_in x xs) d.0 (in_taken n x xs e))
    by false e = e

-- a member of the first part of different numbers is not in the second
pub parts_apart : (xs ys : List ℕ) → Different (xs ++ ys) → (i : ℕ) → is_in i xs ≡ true → is_in i ys ≡ false
parts_apart [] ys d i e = absurd (both_ways false refl e)
parts_apart (x ∷ xs) ys d i e = ⊎_elim head (λ p. parts_apart xs ys d.1 i p) (or_cases (eqb x i) (is_in i xs) e)
  where
    head : eqb x i ≡ true → is_in i ys ≡ false
    head p = by (is_in i ys) refl
      where
        same : is_in x (xs ++ ys) ≡ is_in i (xs ++ ys)
        same = ap (λ k. is_in k (xs ++ ys)) (eqb-true x i p)

        by : (b : Bool) → is_in i ys ≡ b → is_in i ys ≡ false
        by true q = absurd (both_ways (is_in x (xs ++ ys)) d.0 (same ∙ in_joined i xs ys ∙ or_right (is_in i xs) (is_in i ys) q))
        by false q = q

among_is : (x : ℕ) (xs : List ℕ) → Among x xs → is_in x xs ≡ true
among_is x _ (here {xs = xs}) = or_left (eqb x x) (is_in x xs) (eq-eqb x x refl)
among_is x _ (further {y = y} {xs = xs} m) = or_right (eqb y x) (is_in x xs) (among_is x xs m)

module _ (t : Tables) (st : Stands t) where
  abbrev es : List ℕ
  es = t.trail

  abbrev h : Heap
  h = heap_of t.heap

  abbrev Word : Cell → Type 0
  Word = WordKeeps (heap_of t.heap) (used t)

  -- Cells before the entries below m are looked at: some later entries are taken off.
  pub record Stage (m : ℕ) (cells : List Cell) (keep : ℕ → Bool) : Type 0 where
    pub long : length cells ≡ length t.heap
    pub heap : (i : ℕ) → heap_of cells i ≡ cond (is_in i t.trail && not (keep i)) (Reference i) (heap_of t.heap i)
    pub late : (i : ℕ) → is_in i t.trail ≡ true → keep i ≡ false → is_in i (drop m t.trail) ≡ true

  -- on what a level reaches, the cells are as it sees them, or it sees an unbound cell
  abbrev Level : Heap → List Cell → List Cell → Type 0
  Level H ws cells = (i : ℕ) → Reaches H ws i → (heap_of cells i ≡ H i) ⊎ (H i ≡ Reference i)

  reach_on : (H : Heap) (ws words cells : List Cell) → ((w : Cell) → Among w ws → Among w words) → Level H ws cells → (i : ℕ) → Reaches H ws i → Reaches (heap_of cells) words i
  reach_on H ws words cells sub level i r = (reaches_in H ws (λ k. Reaches H ws k × Reaches (heap_of cells) words k) (record {
    starts = λ w j m l. (direct m l, direct (sub w m) l);
    goes_on = λ a j p l. (onward p.0 l, on a j p l (level a p.0));
  }) i r).1
    where
      on : (a j : ℕ) → Reaches H ws a × Reaches (heap_of cells) words a → LeadsBy a (H a) j → (heap_of cells a ≡ H a) ⊎ (H a ≡ Reference a) → Reaches (heap_of cells) words j
      on a j p l (inl e) = onward p.1 (subst (λ (c : Cell). LeadsBy a c j) (sym e) l)
      on a j p l (inr e) =
          let q = subst (λ (c : Cell). LeadsBy a c j) e l in let x = q.0 in let y = q.1 in
          subst (Reaches (heap_of cells) words) (let z : a ≡ j = omega arith in z) p.1

  module _ (m : ℕ) (cells words : List Cell) (keep : ℕ → Bool) (stage : Stage m cells keep) (fine : Each Word words) where
    -- the tables at this stage
    abbrev now : Tables
    now = record { heap = cells; registers = t.registers; trail = kept keep t.trail; choices = map (loose_choice keep t) t.choices }

    loose : Loosens keep t now
    loose = record { cells = stage.long; heap = stage.heap; registers = refl; trail = refl; choices = refl }

    -- what a level reaches is marked
    pub is_marked : (i : ℕ) → Reaches (heap_of cells) words i → marked cells words i ≡ true
    is_marked i r = (words_decided now (rules_loose keep t st now loose) words (each_map Word (WordKeeps (heap_of cells) (length cells)) (word keep t st now loose) words fine) i).1 r

  abbrev K : Left → ℕ → Bool
  K l e = is_in e l.trail

  abbrev lowered : (ℕ → Bool) → Choice → Choice
  lowered stays c = with_tops c c.heap_top (length (kept stays (take c.trail_top t.trail)))

  pub record Result (cs : List Choice) (m : ℕ) (cells words : List Cell) (l : Left) : Type 0 where
    pub long : length l.heap ≡ length cells
    pub trail : l.trail ≡ kept (λ e. is_in e l.trail) (take m t.trail)
    pub heap : (i : ℕ) → heap_of l.heap i ≡ cond (is_in i (take m t.trail) && not (is_in i l.trail)) (Reference i) (heap_of cells i)
    pub choices : l.choices ≡ map (lowered (λ e. is_in e l.trail)) cs
    pub newer : (H : Heap) (ws : List Cell) → ((w : Cell) → Among w ws → Among w words) → Level H ws cells → (i : ℕ) → Reaches H ws i → is_in i (take m t.trail) ≡ true → is_in i l.trail ≡ true
    pub older : Each (λ c. (i : ℕ) → Reaches (heap_of (seen_from c t.heap t.trail)) c.saved i → is_in i (take c.trail_top t.trail) ≡ true → is_in i l.trail ≡ true) cs

  -- The last stretch: entries that no choice point undoes.
  module _ (m : ℕ) (cells words : List Cell) (keep : ℕ → Bool) (stage : Stage m cells keep) (fine : Each Word words) where
    abbrev Mark : ℕ → Bool
    Mark = marked cells words

    abbrev Last : List ℕ
    Last = stretch 0 m t.trail

    all : Last ≡ take m t.trail
    all = ap (λ k. take k t.trail) (let z : m - 0 ≡ m = omega arith in z)

    pub none_left : Result [] m cells words (reset_below [] m t.trail cells words)
    none_left = record {
      long = length_unbind cells (kept (λ e. not (marked cells words e)) (stretch 0 m t.trail));
      trail = kept_same Mark (λ e. is_in e (kept Mark Last)) Last (λ x a. sym (in_kept Mark Last x ∙ ap (λ b. Mark x && b) (among_is x Last a) ∙ and_true (Mark x))) ∙ ap (kept (λ e. is_in e (kept Mark Last))) all;
      heap = λ i. unbind_at cells (kept (λ e. not (Mark e)) Last) i ∙ ap (λ b. cond b (Reference i) (heap_of cells i)) (in_kept (λ e. not (Mark e)) Last i ∙ flip (Mark i) (is_in i Last) ∙ ap₂ (λ x y. x && not y) (ap (is_in i) all) (sym (in_kept Mark Last i)));
      choices = refl;
      newer = λ H ws sub level i r e. in_kept Mark Last i ∙ and_from (Mark i) (is_in i Last) (is_marked m cells words keep stage fine i (reach_on H ws words cells sub level i r)) (ap (is_in i) all ∙ e);
      older = tt;
    }
      where
        and_true : (b : Bool) → (b && true) ≡ b
        and_true true = refl
        and_true false = refl

        flip : (a b : Bool) → (not a && b) ≡ (b && not (a && b))
        flip true true = refl
        flip true false = refl
        flip false true = refl
        flip false false = refl

  -- One stretch, and then the older ones.
  module _ (c : Choice) (cs : List Choice) (m : ℕ) (low : c.trail_top ≤ m) (cells words : List Cell) (keep : ℕ → Bool) (stage : Stage m cells keep) (fine : Each Word words) where
    abbrev M : ℕ → Bool
    M = marked cells words

    abbrev A : List ℕ
    A = take c.trail_top t.trail

    abbrev B : List ℕ
    B = stretch c.trail_top m t.trail

    abbrev gone : List ℕ
    gone = kept (λ e. not (marked cells words e)) (stretch c.trail_top m t.trail)

    abbrev cells' : List Cell
    cells' = unbind_all cells (kept (λ e. not (marked cells words e)) (stretch c.trail_top m t.trail))

    pub keep' : ℕ → Bool
    keep' i = keep i && not (is_in i (kept (λ e. not (marked cells words e)) (stretch c.trail_top m t.trail)))

    parts : take m t.trail ≡ A ++ B
    parts = take_split c.trail_top m t.trail low

    B-late : (i : ℕ) → is_in i B ≡ true → is_in i (drop c.trail_top t.trail) ≡ true
    B-late i e = in_taken (m - c.trail_top) i (drop c.trail_top t.trail) e

    gone_in : (i : ℕ) → is_in i gone ≡ true → is_in i B ≡ true
    gone_in i e = (and_parts (not (M i)) (is_in i B) (sym (in_kept (λ e. not (M e)) B i) ∙ e)).1

    apart : (i : ℕ) → is_in i A ≡ true → is_in i B ≡ false
    apart = parts_apart A B (subst Different parts (different_take m t.trail st.0.trail.0))

    pub stage' : Stage c.trail_top cells' keep'
    unfolding keep'
    stage' = record {
      long = length_unbind cells gone ∙ stage.long;
      heap = λ i. unbind_at cells gone i ∙ ap (cond (is_in i gone) (Reference i)) (stage.heap i) ∙ by i (is_in i gone) refl;
      late = λ i e f. late i e (keep i) refl (is_in i gone) refl f;
    }
      where
        by : (i : ℕ) (g : Bool) → is_in i gone ≡ g → cond (is_in i gone) (Reference i) (cond (is_in i t.trail && not (keep i)) (Reference i) (h i)) ≡ cond (is_in i t.trail && not (keep i && not (is_in i gone))) (Reference i) (h i)
        by i true e =
            let there : is_in i t.trail ≡ true = in_dropped c.trail_top i t.trail (B-late i (gone_in i e)) in
            ap (λ b. cond b (Reference i) (cond (is_in i t.trail && not (keep i)) (Reference i) (h i))) e
            ∙ sym (ap₂ (λ x y. cond (x && not (keep i && not y)) (Reference i) (h i)) there e ∙ ap (λ b. cond (not b) (Reference i) (h i)) (none (keep i)))
          where
            none : (b : Bool) → (b && false) ≡ false
            none true = refl
            none false = refl
        by i false e =
            ap (λ b. cond b (Reference i) (cond (is_in i t.trail && not (keep i)) (Reference i) (h i))) e
            ∙ sym (ap (λ y. cond (is_in i t.trail && not (keep i && not y)) (Reference i) (h i)) e ∙ ap (λ b. cond (is_in i t.trail && not b) (Reference i) (h i)) (full (keep i)))
          where
            full : (b : Bool) → (b && true) ≡ b
            full true = refl
            full false = refl

        late : (i : ℕ) → is_in i t.trail ≡ true → (a : Bool) → keep i ≡ a → (g : Bool) → is_in i gone ≡ g → (keep i && not (is_in i gone)) ≡ false → is_in i (drop c.trail_top t.trail) ≡ true
        late i e a k true g f = B-late i (gone_in i g)
        late i e false k false g f = drop_less c.trail_top m i t.trail low (stage.late i e k)
        late i e true k false g f = absurd (both_ways (keep i && not (is_in i gone)) f (and_from (keep i) (not (is_in i gone)) k (ap not g)))

    module _ (o : Left) (r : Result cs c.trail_top cells' (words ++ c.saved) o) (tops : Each (λ d. d.trail_top ≤ c.trail_top) cs) where
      abbrev now_kept : List ℕ
      now_kept = o.trail ++ kept M B

      old_in : (i : ℕ) → is_in i o.trail ≡ true → is_in i A ≡ true
      old_in i e = (and_parts (is_in i o.trail) (is_in i A) (sym (in_kept (λ x. is_in x o.trail) A i) ∙ ap (is_in i) (sym r.trail) ∙ e)).1

      is_now : (i : ℕ) → is_in i now_kept ≡ (is_in i o.trail || (M i && is_in i B))
      is_now i = in_joined i o.trail (kept M B) ∙ ap (λ b. is_in i o.trail || b) (in_kept M B i)

      -- for the entries of the older stretches, and for those of this one
      older_same : (i : ℕ) → is_in i A ≡ true → is_in i o.trail ≡ is_in i now_kept
      older_same i e = sym (is_now i ∙ ap (λ b. is_in i o.trail || (M i && b)) (apart i e) ∙ none (M i) (is_in i o.trail))
        where
          none : (a b : Bool) → (b || (a && false)) ≡ b
          none true true = refl
          none true false = refl
          none false true = refl
          none false false = refl

      not_older : (i : ℕ) → is_in i B ≡ true → is_in i o.trail ≡ false
      not_older i e = by (is_in i o.trail) refl
        where
          by : (b : Bool) → is_in i o.trail ≡ b → is_in i o.trail ≡ false
          by true q = absurd (both_ways (is_in i B) (apart i (old_in i q)) e)
          by false q = q

      this_same : (i : ℕ) → is_in i B ≡ true → M i ≡ is_in i now_kept
      this_same i e = sym (is_now i ∙ ap₂ (λ x y. x || (M i && y)) (not_older i e) e ∙ full (M i))
        where
          full : (b : Bool) → (false || (b && true)) ≡ b
          full true = refl
          full false = refl

      kept_older : (n : ℕ) → n ≤ c.trail_top → kept (λ e. is_in e o.trail) (take n t.trail) ≡ kept (λ e. is_in e now_kept) (take n t.trail)
      kept_older n le = kept_same (λ e. is_in e o.trail) (λ e. is_in e now_kept) (take n t.trail) (λ x a. older_same x (more_taken n c.trail_top x t.trail le (among_is x (take n t.trail) a)))
        where
          more_taken : (n m i : ℕ) (xs : List ℕ) → n ≤ m → is_in i (take n xs) ≡ true → is_in i (take m xs) ≡ true
          more_taken zero m i xs le e = absurd (both_ways false refl e)
          more_taken (suc n) zero i xs le e = absurd (omega arith)
          more_taken (suc n) (suc m) i [] le e = e
          more_taken (suc n) (suc m) i (x ∷ xs) le e =
              ⊎_elim (λ p. or_left (eqb x i) (is_in i (take m xs)) p) (λ p. or_right (eqb x i) (is_in i (take m xs)) (more_taken n m i xs (omega arith) p)) (or_cases (eqb x i) (is_in i (take n xs)) e)

      trail_now : now_kept ≡ kept (λ e. is_in e now_kept) (take m t.trail)
      trail_now =
          ap₂ (λ (x y : List ℕ). x ++ y) (r.trail ∙ kept_older c.trail_top (omega arith)) (kept_same M (λ e. is_in e now_kept) B (λ x a. this_same x (among_is x B a)))
          ∙ sym (kept_append (λ e. is_in e now_kept) A B) ∙ ap (kept (λ e. is_in e now_kept)) (sym parts)

      heap_now : (i : ℕ) → heap_of o.heap i ≡ cond (is_in i (take m t.trail) && not (is_in i now_kept)) (Reference i) (heap_of cells i)
      heap_now i =
          r.heap i
          ∙ ap (cond (is_in i A && not (is_in i o.trail)) (Reference i)) (unbind_at cells gone i ∙ ap (λ b. cond b (Reference i) (heap_of cells i)) (in_kept (λ e. not (M e)) B i))
          ∙ by (is_in i A) refl (is_in i B) refl (is_in i o.trail) refl (M i)
          ∙ sym (ap₂ (λ x y. cond (x && not y) (Reference i) (heap_of cells i)) (ap (is_in i) parts ∙ in_joined i A B) (is_now i))
        where
          by : (a : Bool) → is_in i A ≡ a → (b : Bool) → is_in i B ≡ b → (x : Bool) → is_in i o.trail ≡ x → (y : Bool)
              → cond (a && not x) (Reference i) (cond (not y && b) (Reference i) (heap_of cells i)) ≡ cond ((a || b) && not (x || (y && b))) (Reference i) (heap_of cells i)
          by true p true q x s y = absurd (both_ways (is_in i B) (apart i p) q)
          by true p false q true s true = refl
          by true p false q true s false = refl
          by true p false q false s true = refl
          by true p false q false s false = refl
          by false p b q true s y = absurd (both_ways (is_in i A) p (old_in i s))
          by false p true q false s true = refl
          by false p true q false s false = refl
          by false p false q false s true = refl
          by false p false q false s false = refl

      choices_now : o.choices ≡ map (lowered (λ e. is_in e now_kept)) cs
      choices_now = r.choices ∙ each cs tops
        where
          each : (ds : List Choice) → Each (λ d. d.trail_top ≤ c.trail_top) ds → map (lowered (λ e. is_in e o.trail)) ds ≡ map (lowered (λ e. is_in e now_kept)) ds
          each [] e = refl
          each (d ∷ ds) e = ap₂ (λ (x : List ℕ) (l : List Choice). with_tops d d.heap_top (length x) ∷ l) (kept_older d.trail_top e.0) (each ds e.1)

      carries : (i : ℕ) → is_in i o.trail ≡ true → is_in i now_kept ≡ true
      carries i e = is_now i ∙ or_left (is_in i o.trail) (M i && is_in i B) e

      -- an older level, or one that was there before this stretch, is still seen as it was
      level_on : (H : Heap) (ws : List Cell) → ((w : Cell) → Among w ws → Among w words) → Level H ws cells → Level H ws cells'
      level_on H ws sub level i q = by (is_in i gone) refl
        where
          by : (b : Bool) → is_in i gone ≡ b → (heap_of cells' i ≡ H i) ⊎ (H i ≡ Reference i)
          by true e =
              absurd (both_ways (not (M i)) (ap not (is_marked m cells words keep stage fine i (reach_on H ws words cells sub level i q))) (and_parts (not (M i)) (is_in i B) (sym (in_kept (λ e. not (M e)) B i) ∙ e)).0)
          by false e = ⊎_elim (λ p. inl (unbind_at cells gone i ∙ ap (λ b. cond b (Reference i) (heap_of cells i)) e ∙ p)) inr (level i q)

      newer_now : (H : Heap) (ws : List Cell) → ((w : Cell) → Among w ws → Among w words) → Level H ws cells → (i : ℕ) → Reaches H ws i → is_in i (take m t.trail) ≡ true → is_in i now_kept ≡ true
      newer_now H ws sub level i q e =
          ⊎_elim (λ p. carries i (r.newer H ws (λ w n. among_left c.saved (sub w n)) (level_on H ws sub level) i q p))
          (λ p. sym (this_same i p) ∙ is_marked m cells words keep stage fine i (reach_on H ws words cells sub level i q))
          (or_cases (is_in i A) (is_in i B) (sym (ap (is_in i) parts ∙ in_joined i A B) ∙ e))

      -- what this choice point sees
      own_level : Level (heap_of (seen_from c t.heap t.trail)) c.saved cells'
      own_level i q = by (is_in i (drop c.trail_top t.trail)) refl (is_in i t.trail && not (keep' i)) refl
        where
          by : (d : Bool) → is_in i (drop c.trail_top t.trail) ≡ d → (f : Bool) → (is_in i t.trail && not (keep' i)) ≡ f
              → (heap_of cells' i ≡ heap_of (seen_from c t.heap t.trail) i) ⊎ (heap_of (seen_from c t.heap t.trail) i ≡ Reference i)
          by true d f e = inr (unbind_at t.heap (drop c.trail_top t.trail) i ∙ ap (λ b. cond b (Reference i) (h i)) d)
          by false d true e =
              let p = and_parts (is_in i t.trail) (not (keep' i)) e in
              absurd (both_ways (is_in i (drop c.trail_top t.trail)) d (stage'.late i p.0 (not_true (keep' i) p.1)))
            where
              not_true : (b : Bool) → not b ≡ true → b ≡ false
              not_true true e = absurd (both_ways false refl e)
              not_true false e = refl
          by false d false e =
              inl (stage'.heap i ∙ ap (λ b. cond b (Reference i) (h i)) e ∙ sym (unbind_at t.heap (drop c.trail_top t.trail) i ∙ ap (λ b. cond b (Reference i) (h i)) d))

      pub one_more : Result (c ∷ cs) m cells words (record { heap = o.heap; trail = o.trail ++ kept M B; choices = with_tops c c.heap_top (length o.trail) ∷ o.choices })
      one_more = record {
        long = r.long ∙ length_unbind cells gone;
        trail = trail_now;
        heap = heap_now;
        choices = ap₂ (λ (x : List ℕ) (l : List Choice). with_tops c c.heap_top (length x) ∷ l) (r.trail ∙ kept_older c.trail_top (omega arith)) choices_now;
        newer = newer_now;
        older = (
          λ i q e. carries i (r.newer (heap_of (seen_from c t.heap t.trail)) c.saved (λ w n. among_right words n) own_level i q e),
          each_map (λ d. (i : ℕ) → Reaches (heap_of (seen_from d t.heap t.trail)) d.saved i → is_in i (take d.trail_top t.trail) ≡ true → is_in i o.trail ≡ true)
              (λ d. (i : ℕ) → Reaches (heap_of (seen_from d t.heap t.trail)) d.saved i → is_in i (take d.trail_top t.trail) ≡ true → is_in i now_kept ≡ true)
              (λ d f i q e. carries i (f i q e)) cs r.older,
        );
      }

  trail_tops_count : (n m : ℕ) (cs : List Choice) → TopsFall n m cs → Each (λ d. d.trail_top ≤ m) cs
  trail_tops_count n m [] v = tt
  trail_tops_count n m (c ∷ cs) v = (v.1, each_map (λ d. d.trail_top ≤ c.trail_top) (λ d. d.trail_top ≤ m) (λ d le. let a = v.1 in omega arith) cs (trail_tops_count c.heap_top c.trail_top cs v.2))

  pub reset_result : (n : ℕ) (cs : List Choice) (m : ℕ) (cells words : List Cell) (keep : ℕ → Bool) → TopsFall n m cs → Stage m cells keep → Each Word words → Each (λ c. Each Word c.saved) cs
      → Result cs m cells words (reset_below cs m t.trail cells words)
  reset_result n [] m cells words keep falls stage fine saved = none_left m cells words keep stage fine
  reset_result n (c ∷ cs) m cells words keep falls stage fine saved =
      one_more c cs m falls.1 cells words keep stage fine _
      (reset_result c.heap_top cs c.trail_top _ (words ++ c.saved) (keep' c cs m falls.1 cells words keep stage fine) falls.2 (stage' c cs m falls.1 cells words keep stage fine) (each_append Word words c.saved fine saved.0) saved.1)
      (trail_tops_count c.heap_top c.trail_top cs falls.2)

  -- At the beginning nothing is taken off.
  whole : Result t.choices (length t.trail) t.heap t.registers (reset_below t.choices (length t.trail) t.trail t.heap t.registers)
  whole = reset_result (used t) t.choices (length t.trail) t.heap t.registers (λ i. true) st.0.tops
      (record { long = refl; heap = λ i. sym (ap (λ b. cond b (Reference i) (h i)) (none (is_in i t.trail))); late = λ i e f. absurd (both_ways true f refl) }) st.0.registers.0 st.0.registers.1
    where
      none : (b : Bool) → (b && false) ≡ false
      none true = refl
      none false = refl

  abbrev stays : ℕ → Bool
  stays e = is_in e (reset t).trail

  every : take (length t.trail) t.trail ≡ t.trail
  every = take_all (length t.trail) t.trail (omega arith)

  loosens : Loosens stays t (reset t)
  loosens = record {
    cells = whole.long;
    heap = λ i. whole.heap i ∙ ap (λ (xs : List ℕ). cond (is_in i xs && not (stays i)) (Reference i) (h i)) every;
    registers = refl;
    trail = whole.trail ∙ ap (kept stays) every;
    choices = whole.choices;
  }

  unseen : Unseen stays t
  unseen = record {
    present = λ i r e. whole.newer h t.registers (λ w m. m) (λ j q. inl refl) i r (ap (is_in i) every ∙ e);
    older = whole.older;
  }

pub reset_layered : ResetLayered
reset_layered t st = loose_layered (stays t st) t st (reset t) (loosens t st) (unseen t st)
