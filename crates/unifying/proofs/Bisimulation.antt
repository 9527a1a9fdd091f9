-- Where unifying with merges comes to tables u, all pairs that it was given spell the same in u.
-- Structures that were set equal have arguments that were set equal in their turn, and terms are finite:
-- by induction on n, merged structures of which one spells a term smaller than n spell the same term.
use Rattle.std.proofs.Common.{◌≡◌, ℕ, zero, suc, ◌<◌, true, ◌⊎◌, List, [], ◌∷◌, sym, refl, ap, ◌∙◌, subst, ap₂, subst₂, inl, inr, ⊎_elim, arith, Option, Some, None}
use Rattle.std.proofs.lemmas.Bool.{eqb-true, eq-eqb}
use Rattle.cells.specs.declared.cell.Cell.{Cell}
use Rattle.cells.specs.declared.cell.Cell.TheVariants.{Reference, Pointer}
use Rattle.tables.specs.Tables.{Tables, cell_at}
use Rattle.terms.specs.Terms.{Label, Sort, Tree, Term, Terms, node, cons, size}
use Rattle.heaps.specs.Lists.{Each}
use Rattle.heaps.specs.Spelling.{label_of, arity_of, run, spell}
use Rattle.heaps.specs.LevelLaws.{Stands, Keeps}
use Rattle.heaps.proofs.MemberLaws.{each_map}
use Rattle.calls.specs.Unifying.{Pair, words, rows}
use Rattle.calls.specs.Pairs.{PairKeeps}
use Rattle.calls.proofs.UnifyPairs.{pairs_keep}
use Rattle.classes.specs.Merges.{Merge, same_class}
use Rattle.unifying.specs.Merging.{MemoRun, finished, no_more, one_more, skipped, merged, clashed, stopped, went_on}
use Rattle.classes.proofs.ClassLaws.{class_passes}
use Rattle.unifying.proofs.SolutionLaws.{Reading, Solution, solution_self, solution_back, solution_alike, solution_pointer}
use Rattle.unifying.proofs.WordsMeet.{Rest, behind, behind_row, words_went, words_stop, reads_first, reads_second, second_structure, arguments_keep, row_keeps, rest_keeps}

-- equal if one of them is smaller than n
abbrev pub Near : {s : Sort} → ℕ → Tree s → Tree s → Type 0
Near n x y = ((size x < n) ⊎ (size y < n)) → x ≡ y

near_cons : (n : ℕ) (x y : Term) (xs ys : Terms) → Near n x y → Near n xs ys → Near n (cons x xs) (cons y ys)
near_cons n x y xs ys f g (inl lt) = ap₂ cons (f (inl (omega arith))) (g (inl (omega arith)))
near_cons n x y xs ys f g (inr lt) = ap₂ cons (f (inr (omega arith))) (g (inr (omega arith)))

near_node : (n : ℕ) (l : Label) (xs ys : Terms) → Near n xs ys → Near (suc n) (node l xs) (node l ys)
near_node n l xs ys f (inl lt) = ap (node l) (f (inl (omega arith)))
near_node n l xs ys f (inr lt) = ap (node l) (f (inr (omega arith)))

near_less : {s : Sort} (n : ℕ) (x y : Tree s) → Near (suc n) x y → Near n x y
near_less n x y f (inl lt) = f (inl (omega arith))
near_less n x y f (inr lt) = f (inr (omega arith))

near_same : {s : Sort} (n : ℕ) (x y v w : Tree s) → x ≡ v → y ≡ w → Near n v w → Near n x y
near_same n x y v w e g f = subst₂ (Near n) (sym e) (sym g) f

near_all : {s : Sort} (x y : Tree s) → ((n : ℕ) → Near n x y) → x ≡ y
near_all x y f = f (suc (size x)) (inl (omega arith))

-- the merges made by the end of a run
abbrev pub merges_by : {t : Tables} {merges : List Merge} {ps : List Pair} {r : Option Tables} → MemoRun t merges ps r → List Merge
merges_by (finished {merges = merges}) = merges
merges_by (no_more w) = merges_by w
merges_by (one_more w) = merges_by w
merges_by (skipped p q ea eb c w) = merges_by w
merges_by (merged p q ea eb c l w) = merges_by w
merges_by (clashed {merges = merges} p q ea eb c l) = merges
merges_by (stopped {merges = merges} c e) = merges
merges_by (went_on c e w) = merges_by w

-- they hold those made before
each_before : (P : Merge → Type 0) {t : Tables} {merges : List Merge} {ps : List Pair} {r : Option Tables} (w : MemoRun t merges ps r) → Each P (merges_by w) → Each P merges
each_before P finished e = e
each_before P (no_more w) e = each_before P w e
each_before P (one_more w) e = each_before P w e
each_before P (skipped p q ea eb c w) e = each_before P w e
each_before P (merged p q ea eb c l w) e = (each_before P w e).1
each_before P (clashed p q ea eb c l) e = e
each_before P (stopped c x) e = e
each_before P (went_on c x w) e = each_before P w e

module _ (u : Tables) where
  abbrev S : Reading
  S = spell u.heap

  abbrev NearPair : ℕ → Pair → Type 0
  NearPair n (words a b) = Near n (S a) (S b)
  NearPair n (rows i j k) = Near n (run S i k) (run S j k)

  abbrev NearMerge : ℕ → Merge → Type 0
  NearMerge n m = Near n (S (Pointer m.0)) (S (Pointer m.1))

  -- structures of one class
  class_near : (n : ℕ) (merges : List Merge) → Each (NearMerge n) merges → (p q : ℕ) → same_class merges p q ≡ true → Near n (S (Pointer p)) (S (Pointer q))
  class_near n merges e p q c lt = by lt
    where
      Reads : Term → ℕ → Type 0
      Reads v x = S (Pointer x) ≡ v

      passes : (v : Term) → size v < n → Each (λ m. (Reads v m.0 → Reads v m.1) × (Reads v m.1 → Reads v m.0)) merges
      passes v lt = each_map (NearMerge n) _ (λ m f. (
        λ q. sym (f (inl (subst (λ (x : Term). size x < n) (sym q) lt))) ∙ q,
        λ q. f (inr (subst (λ (x : Term). size x < n) (sym q) lt)) ∙ q,
      )) merges e

      by : ((size (S (Pointer p)) < n) ⊎ (size (S (Pointer q)) < n)) → S (Pointer p) ≡ S (Pointer q)
      by (inl lt) = sym (class_passes (Reads (S (Pointer p))) merges (passes (S (Pointer p)) lt) p q c refl)
      by (inr lt) = class_passes (Reads (S (Pointer q))) merges (passes (S (Pointer q)) lt) q p (eq-eqb _ _ (sym (eqb-true _ _ c))) refl

  -- the tables u solve the run's first tables; and if merged structures are near for n, then so are the pairs, and the new merges for n + 1
  record Done {t : Tables} {merges : List Merge} {ps : List Pair} {r : Option Tables} (w : MemoRun t merges ps r) : Type 0 where
    pub solution : Solution t S
    pub pairs : (n : ℕ) → Each (NearMerge n) (merges_by w) → Each (NearPair n) ps
    pub new : (n : ℕ) → Each (NearMerge n) (merges_by w) → Each (NearMerge (suc n)) merges → Each (NearMerge (suc n)) (merges_by w)

  rest_near : (n : ℕ) (ps qs : List Pair) → Rest ps qs → Each (NearPair n) qs → Each (NearPair n) ps
  rest_near n ps _ behind e = e
  rest_near n ps _ behind_row e = e.1

  run_done : {t : Tables} {merges : List Merge} {ps : List Pair} {r : Option Tables} (w : MemoRun t merges ps r) → r ≡ Some u → Stands t → Each (PairKeeps t) ps → Done w
  run_done (finished {t = t}) e st v = let q : t ≡ u = cc e in record {
    solution = subst (λ (x : Tables). Solution t (spell x.heap)) q (solution_self t);
    pairs = λ n h. tt;
    new = λ n h g. g;
  }
  run_done (no_more w) e st v = let d = run_done w e st v.1 in record {
    solution = d.solution;
    pairs = λ n h. (λ lt. refl, d.pairs n h);
    new = d.new;
  }
  run_done (one_more {t = t} {i = i} {j = j} {k = k} w) e st v = let x = row_keeps t i j k v.0 in let d = run_done w e st (x.0, (x.1, v.1)) in record {
    solution = d.solution;
    pairs = λ n h. let g = d.pairs n h in (near_cons n (S (Reference i)) (S (Reference j)) (run S (suc i) k) (run S (suc j) k) g.0 g.1.0, g.1.1);
    new = d.new;
  }
  run_done (skipped {t = t} {merges = merges} {a = a} {b = b} p q ea eb c w) e st v = let d = run_done w e st v.1 in record {
    solution = d.solution;
    pairs = λ n h. (
      near_same n (S a) (S b) (S (Pointer p)) (S (Pointer q)) (reads_first t st a b v.0.0 v.0.1 p q ea eb S d.solution) (reads_second t st a b v.0.0 v.0.1 p q ea eb S d.solution)
          (class_near n merges (each_before (NearMerge n) w h) p q c),
      d.pairs n h,
    );
    new = d.new;
  }
  run_done (merged {t = t} {merges = merges} {a = a} {b = b} p q ea eb c l w) e st v =
      let d = run_done w e st (arguments_keep t st a b v.0.0 v.0.1 p q ea eb l, v.1) in record {
        solution = d.solution;
        pairs = λ n h. (
          near_same n (S a) (S b) (S (Pointer p)) (S (Pointer q)) (reads_first t st a b v.0.0 v.0.1 p q ea eb S d.solution) (reads_second t st a b v.0.0 v.0.1 p q ea eb S d.solution)
              (near_less n (S (Pointer p)) (S (Pointer q)) (structures d n h)),
          (d.pairs n h).1,
        );
        new = λ n h g. d.new n h (structures d n h, g);
      }
    where
      structures : Done w → (n : ℕ) → Each (NearMerge n) (merges_by w) → Near (suc n) (S (Pointer p)) (S (Pointer q))
      structures d n h = near_same (suc n) (S (Pointer p)) (S (Pointer q)) _ _ (solution_pointer t st.0 S d.solution p) (second_structure t st a b v.0.0 v.0.1 p q ea eb l S d.solution)
          (near_node n (label_of (cell_at t p)) (run S (suc p) (arity_of (cell_at t p))) (run S (suc q) (arity_of (cell_at t p))) (d.pairs n h).0)
  run_done (clashed p q ea eb c l) e st v = absurd (let z : ◌≡◌ {A = ℕ} 0 1 = cc e in omega arith)
  run_done (stopped {t = t} {a = a} {b = b} {ps = ps} {r = r} c x) e st v =
      absurd (let y = (words_stop t st a b v.0.0 v.0.1 ps r c x).0 in let g : None ≡ Some u = sym y ∙ e in let z : ◌≡◌ {A = ℕ} 0 1 = cc g in omega arith)
  run_done (went_on {t = t} {u = t₁} {a = a} {b = b} {ps = ps} {qs = qs} c x w) e st v =
      let g = words_went t st a b v.0.0 v.0.1 ps qs t₁ c x in
      let d = run_done w e g.stands (rest_keeps t₁ ps qs g.rest (pairs_keep t t₁ g.keeps ps v.1)) in record {
        solution = solution_back t t₁ S g.later d.solution;
        pairs = λ n h. (λ lt. solution_alike t₁ S d.solution a b g.alike, rest_near n ps qs g.rest (d.pairs n h));
        new = d.new;
      }

  none_smaller : (merges : List Merge) → Each (NearMerge 0) merges
  none_smaller [] = tt
  none_smaller (m ∷ merges) = (λ lt. absurd (⊎_elim {C = ⊥} (λ l. omega arith) (λ l. omega arith) lt), none_smaller merges)

  -- merges of a run from the beginning are near for every n
  all_near : {t : Tables} {ps : List Pair} {r : Option Tables} (w : MemoRun t [] ps r) → Done w → (n : ℕ) → Each (NearMerge n) (merges_by w)
  all_near w d zero = none_smaller (merges_by w)
  all_near w d (suc n) = d.new n (all_near w d n) tt

-- so the tables at the end solve the first pair
pub run_solves : (t : Tables) (a b : Cell) (u : Tables) → Stands t → Keeps t a → Keeps t b → MemoRun t [] (words a b ∷ []) (Some u)
    → Solution t (spell u.heap) × (spell u.heap a ≡ spell u.heap b)
run_solves t a b u st ka kb w = let d = run_done u w refl st ((ka, kb), tt) in
    (d.solution, near_all (spell u.heap a) (spell u.heap b) (λ n. (d.pairs n (all_near u w d n)).0))
