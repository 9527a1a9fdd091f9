-- Comparing with merges is right. Where it says yes, unifying with merges would have bound nothing, so the two words spell the same;
-- where it says no, two of the words met on the way spell different terms.
use Rattle.std.proofs.Common.{◌≡◌, ℕ, suc, Bool, true, false, List, sym, refl, ap, ◌∙◌, arith, Some}
use Rattle.std.proofs.lemmas.Bool.{both_ways}
use Rattle.cells.specs.declared.cell.Cell.{Cell}
use Rattle.cells.specs.declared.cell.Cell.TheVariants.{Reference, Atom, Integer}
use Rattle.tables.specs.Tables.{Tables, cell_at}
use Rattle.terms.specs.Terms.{Term, node}
use Rattle.terms.proofs.SameLaws.{same_tree_true, same_decides}
use Rattle.heaps.specs.Lists.{Each}
use Rattle.heaps.specs.Spelling.{label_of, arity_of, run, spell}
use Rattle.heaps.specs.Ends.{end}
use Rattle.heaps.specs.LevelLaws.{Stands}
use Rattle.heaps.proofs.WordKinds.{false_of}
use Rattle.calls.specs.Unifying.{Pair}
use Rattle.calls.proofs.UnifyEnds.{Ended, variable, structure, atom, integer, end_ended}
use Rattle.calls.specs.Pairs.{PairKeeps}
use Rattle.classes.specs.Merges.{Merge}
use Rattle.unifying.specs.Merging.{both_pointers, MemoRun, SameRun, finished, no_more, one_more, skipped, merged, clashed, went_on, alike, differing}
use Rattle.unifying.specs.Laws.{SameRight}
use Rattle.unifying.proofs.SolutionLaws.{Reading, Equal, solution_self, solution_pointer}
use Rattle.unifying.proofs.WordsMeet.{Rest, behind, behind_row, met, reads_first, reads_second, second_structure, functors_alike, arguments_keep, row_keeps}
use Rattle.unifying.proofs.TextbookSteps.{met_same}
use Rattle.unifying.proofs.Bisimulation.{run_solves}

module _ (t : Tables) (st : Stands t) where
  abbrev S : Reading
  S = spell t.heap

  same_memo : {merges : List Merge} {ps : List Pair} {r : Bool} → SameRun t merges ps r → r ≡ true → Each (PairKeeps t) ps → MemoRun t merges ps (Some t)
  same_memo finished e v = finished
  same_memo (no_more w) e v = no_more (same_memo w e v.1)
  same_memo (one_more {i = i} {j = j} {k = k} w) e v = let x = row_keeps t i j k v.0 in one_more (same_memo w e (x.0, (x.1, v.1)))
  same_memo (skipped p q ea eb c w) e v = skipped p q ea eb c (same_memo w e v.1)
  same_memo (merged {a = a} {b = b} p q ea eb c l w) e v = merged p q ea eb c l (same_memo w e (arguments_keep t st a b v.0.0 v.0.1 p q ea eb l, v.1))
  same_memo (clashed p q ea eb c l) e v = absurd (both_ways false refl e)
  same_memo (alike {merges = merges} {a = a} {b = b} {ps = ps} c x w) e v =
      let m = met_same t st.0 ps (end t a) (end t b) _ (met t st a b v.0.0 v.0.1 ps c) (ap S x) in
      went_on c m.1 (after m.0 m.2 (same_memo w e v.1))
    where
      after : (qs : List Pair) → Rest ps qs → MemoRun t merges ps (Some t) → MemoRun t merges qs (Some t)
      after _ behind w = w
      after _ behind_row w = no_more w
  same_memo (differing c x) e v = absurd (both_ways false refl e)

  -- ends that are not both structures and spell the same are the same word
  ends_same : {c d : Cell} {u v : Term} → Ended t c u → Ended t d v → u ≡ v → both_pointers c d ≡ false → c ≡ d
  ends_same (variable x p) (variable y q) e c = let z : x ≡ y = cc e in ap Reference z
  ends_same (variable x p) (structure q f a z) e c = absurd (let z : ◌≡◌ {A = ℕ} 0 1 = cc e in omega arith)
  ends_same (variable x p) (atom b) e c = absurd (let z : ◌≡◌ {A = ℕ} 0 1 = cc e in omega arith)
  ends_same (variable x p) (integer z) e c = absurd (let z : ◌≡◌ {A = ℕ} 0 1 = cc e in omega arith)
  ends_same (structure p f a z) (variable y q) e c = absurd (let z : ◌≡◌ {A = ℕ} 0 1 = cc e in omega arith)
  ends_same (structure p f a z) (structure q g b y) e c = absurd (both_ways true c refl)
  ends_same (structure p f a z) (atom b) e c = absurd (let z : ◌≡◌ {A = ℕ} 0 1 = cc e in omega arith)
  ends_same (structure p f a z) (integer y) e c = absurd (let z : ◌≡◌ {A = ℕ} 0 1 = cc e in omega arith)
  ends_same (atom a) (variable y q) e c = absurd (let z : ◌≡◌ {A = ℕ} 0 1 = cc e in omega arith)
  ends_same (atom a) (structure q g b y) e c = absurd (let z : ◌≡◌ {A = ℕ} 0 1 = cc e in omega arith)
  ends_same (atom a) (atom b) e c = let z : a ≡ b = cc e in ap Atom z
  ends_same (atom a) (integer y) e c = absurd (let z : ◌≡◌ {A = ℕ} 0 1 = cc e in omega arith)
  ends_same (integer z) (variable y q) e c = absurd (let z : ◌≡◌ {A = ℕ} 0 1 = cc e in omega arith)
  ends_same (integer z) (structure q g b y) e c = absurd (let z : ◌≡◌ {A = ℕ} 0 1 = cc e in omega arith)
  ends_same (integer z) (atom b) e c = absurd (let z : ◌≡◌ {A = ℕ} 0 1 = cc e in omega arith)
  ends_same (integer y) (integer z) e c = let p : y ≡ z = cc e in ap Integer p

  -- pairs that spell the same are not found to differ
  same_not : {merges : List Merge} {ps : List Pair} {r : Bool} → SameRun t merges ps r → r ≡ false → Each (PairKeeps t) ps → Each (Equal S) ps → ⊥
  same_not finished e v s = both_ways true e refl
  same_not (no_more w) e v s = same_not w e v.1 s.1
  same_not (one_more {i = i} {j = j} {k = k} w) e v s = let x = row_keeps t i j k v.0 in same_not w e (x.0, (x.1, v.1)) (cc s.0, (cc s.0, s.1))
  same_not (skipped p q ea eb c w) e v s = same_not w e v.1 s.1
  same_not (merged {a = a} {b = b} p q ea eb c l w) e v s =
      let f = solution_self t in let ka = v.0.0 in let kb = v.0.1 in
      let both : node (label_of (cell_at t p)) (run S (suc p) (arity_of (cell_at t p))) ≡ node (label_of (cell_at t p)) (run S (suc q) (arity_of (cell_at t p))) =
      sym (reads_first t st a b ka kb p q ea eb S f ∙ solution_pointer t st.0 S f p) ∙ s.0 ∙ reads_second t st a b ka kb p q ea eb S f ∙ second_structure t st a b ka kb p q ea eb l S f in
      same_not w e (arguments_keep t st a b ka kb p q ea eb l, v.1) (cc both, s.1)
  same_not (clashed {a = a} {b = b} p q ea eb c l) e v s = functors_alike t st a b v.0.0 v.0.1 p q ea eb S (solution_self t) s.0 l
  same_not (alike c x w) e v s = same_not w e v.1 s.1
  same_not (differing {a = a} {b = b} c x) e v s = x (ends_same (end_ended t st.0 a v.0.0.0) (end_ended t st.0 b v.0.1.0) s.0 c)

pub same_right : SameRight
same_right t a b true st ka kb w =
    sym ((same_decides _ (spell t.heap a) (spell t.heap b)).1 (run_solves t a b t st ka kb (same_memo t st w refl ((ka, kb), tt))).1)
same_right t a b false st ka kb w =
    sym (false_of _ (λ e. same_not t st w refl ((ka, kb), tt) (same_tree_true (spell t.heap a) (spell t.heap b) e, tt)))
