-- The steps of unification without merges: their result is the one that `solve` finds, and two words that spell the same term
-- are done in steps that change nothing.
use Rattle.std.proofs.Common.{◌≡◌, ℕ, zero, suc, ◌<◌, ◌≤◌, Bool, true, false, cond, List, [], ◌∷◌, sym, refl, ap, ◌∙◌, subst, ap₂, arith, Some, None}
use Rattle.std.proofs.lemmas.Bool.{both_ways, eq-eqb, and_parts}
use Rattle.cells.specs.declared.cell.Cell.{Cell}
use Rattle.cells.specs.declared.cell.Cell.TheVariants.{Reference, Pointer, Functor, Atom, Integer}
use Rattle.tables.specs.Tables.{Tables, cell_at}
use Rattle.terms.specs.Terms.{node, occurs, size}
use Rattle.heaps.specs.Spelling.{label_of, arity_of, run, spell}
use Rattle.heaps.specs.Ends.{end}
use Rattle.heaps.specs.Rules.{Rules}
use Rattle.heaps.specs.LevelLaws.{Stands, Keeps}
use Rattle.heaps.proofs.SpellLaws.{spell_unbound}
use Rattle.calls.specs.Unifying.{Pair, words, rows, Next, stop, go, meet, step, after, solve}
use Rattle.calls.specs.Pairs.{PairKeeps}
use Rattle.unifying.specs.Merging.{is_pointer, both_pointers, same_functor, arguments}
use Rattle.unifying.proofs.SolutionLaws.{Reading, Solution, solution_self, solution_pointer}
use Rattle.unifying.proofs.Meetings.{Met, same_variable, same_constant, binding, failing}
use Rattle.unifying.proofs.WordsMeet.{Rest, behind, behind_row, met, ends_alike, reads_first, reads_second, second_structure, functors_alike, arguments_keep, row_keeps}

pub data Steps : Tables → List Pair → Tables → List Pair → Type 0 where
  arrived : {t : Tables} {ps : List Pair} → Steps t ps t ps
  next : {t u v : Tables} {ps qs rs : List Pair} → step t ps ≡ go u qs → Steps u qs v rs → Steps t ps v rs

pub steps_join : {t u v : Tables} {ps qs rs : List Pair} → Steps t ps u qs → Steps u qs v rs → Steps t ps v rs
steps_join arrived y = y
steps_join (next e x) y = next e (steps_join x y)

-- steps that leave nothing to do come to the tables that `solve` finds
pub steps_solve : {t u : Tables} {ps qs : List Pair} → Steps t ps u qs → qs ≡ [] → (g : ℕ) (v : Tables) → solve g t ps ≡ Some v → u ≡ v
steps_solve x e zero v q = absurd (let z : ◌≡◌ {A = ℕ} 0 1 = cc q in omega arith)
steps_solve (arrived {t = t}) e (suc g) v q = let p : Some t ≡ Some v = subst (λ (rs : List Pair). solve (suc g) t rs ≡ Some v) e q in cc p
steps_solve (next p x) e (suc g) v q = steps_solve x e g v (sym (ap (after (solve g)) p) ∙ q)

-- the empty row after two constants
pub rest_steps : (t : Tables) (ps qs : List Pair) → Rest ps qs → Steps t qs t ps
rest_steps t ps _ behind = arrived
rest_steps t ps _ behind_row = next refl arrived

-- ends that spell the same and are not both structures
pub met_same : (t : Tables) → Rules t → (ps : List Pair) (c d : Cell) (x : Next) → Met t ps c d x → spell t.heap c ≡ spell t.heap d → (qs : List Pair) × (x ≡ go t qs) × Rest ps qs
met_same t r ps c d _ (same_variable e) q = (ps, refl, behind)
met_same t r ps c d _ (same_constant e) q = (rows 0 0 0 ∷ ps, refl, behind_row)
met_same t r ps c d _ (binding x w b range turn) q =
    absurd (both_ways (occurs x (spell t.heap w)) b.absent (ap (occurs x) (sym ((turn (spell t.heap)).0 q) ∙ spell_unbound t r x b.free) ∙ eq-eqb x x refl))
met_same t r ps c d _ (failing f) q = absurd (f (spell t.heap) (solution_self t) q)

is_pointer_lem : (c : Cell) → is_pointer c ≡ true → (p : ℕ) × (c ≡ Pointer p)
is_pointer_lem (Reference n) e = absurd (both_ways false refl e)
is_pointer_lem (Pointer n) e = (n, refl)
is_pointer_lem (Functor name arity) e = absurd (both_ways false refl e)
is_pointer_lem (Atom n) e = absurd (both_ways false refl e)
is_pointer_lem (Integer z) e = absurd (both_ways false refl e)

module _ (t : Tables) (st : Stands t) where
  abbrev S : Reading
  S = spell t.heap

  -- n bounds the terms whose words are known to be done in steps
  module _ (n : ℕ) (smaller : (a b : Cell) → size (S a) < n → S a ≡ S b → Keeps t a → Keeps t b → (ps : List Pair) → Steps t (words a b ∷ ps) t ps) where
    rows_steps : (k i j : ℕ) → size (run S i k) ≤ n → run S i k ≡ run S j k → PairKeeps t (rows i j k) → (ps : List Pair) → Steps t (rows i j k ∷ ps) t ps
    rows_steps zero i j le e v ps = next refl arrived
    rows_steps (suc k) i j le e v ps = let x = row_keeps t i j k v in
        next refl (steps_join
        (smaller (Reference i) (Reference j) (omega arith) (cc e) x.0.0 x.0.1 (rows (suc i) (suc j) k ∷ ps))
        (rows_steps k (suc i) (suc j) (omega arith) (cc e) x.1 ps))

    structures_steps : (a b : Cell) → size (S a) ≤ n → S a ≡ S b → Keeps t a → Keeps t b → (ps : List Pair) (p q : ℕ) → end t a ≡ Pointer p → end t b ≡ Pointer q
        → Steps t (words a b ∷ ps) t ps
    structures_steps a b le e ka kb ps p q ea eb = test (same_functor t p q) refl
      where
        f : Solution t S
        f = solution_self t

        first : S a ≡ node (label_of (cell_at t p)) (run S (suc p) (arity_of (cell_at t p)))
        first = reads_first t st a b ka kb p q ea eb S f ∙ solution_pointer t st.0 S f p

        test : (x : Bool) → same_functor t p q ≡ x → Steps t (words a b ∷ ps) t ps
        test true l =
            let second = reads_second t st a b ka kb p q ea eb S f ∙ second_structure t st a b ka kb p q ea eb l S f in
            let both : node (label_of (cell_at t p)) (run S (suc p) (arity_of (cell_at t p))) ≡ node (label_of (cell_at t p)) (run S (suc q) (arity_of (cell_at t p))) =
            sym first ∙ e ∙ second in
            let z = ap size first in
            next (ap₂ (λ (c d : Cell). meet t c d ps) ea eb ∙ ap (λ (x : Bool). cond x (go t (arguments t p q ∷ ps)) (stop None)) l)
            (rows_steps (arity_of (cell_at t p)) (suc p) (suc q) (omega arith) (cc both) (arguments_keep t st a b ka kb p q ea eb l) ps)
        test false l = absurd (functors_alike t st a b ka kb p q ea eb S f e l)

  same_steps_by : (n : ℕ) (a b : Cell) → size (S a) < n → S a ≡ S b → Keeps t a → Keeps t b → (ps : List Pair) → Steps t (words a b ∷ ps) t ps
  same_steps_by zero a b lt e ka kb ps = absurd (omega arith)
  same_steps_by (suc n) a b lt e ka kb ps = test (both_pointers (end t a) (end t b)) refl (same_steps_by n)
    where
      test : (x : Bool) → both_pointers (end t a) (end t b) ≡ x
          → ((a b : Cell) → size (S a) < n → S a ≡ S b → Keeps t a → Keeps t b → (ps : List Pair) → Steps t (words a b ∷ ps) t ps) → Steps t (words a b ∷ ps) t ps
      test true x smaller =
          let y = and_parts (is_pointer (end t a)) (is_pointer (end t b)) x in
          let p = is_pointer_lem (end t a) y.0 in let q = is_pointer_lem (end t b) y.1 in
          structures_steps n smaller a b (omega arith) e ka kb ps p.0 q.0 p.1 q.1
      test false x smaller =
          let m = met_same t st.0 ps (end t a) (end t b) _ (met t st a b ka kb ps x) (ends_alike t st a b ka kb S (solution_self t) e) in
          next m.1 (rest_steps t ps m.0 m.2)

  pub same_steps : (a b : Cell) → S a ≡ S b → Keeps t a → Keeps t b → (ps : List Pair) → Steps t (words a b ∷ ps) t ps
  same_steps a b e ka kb ps = same_steps_by (suc (size (S a))) a b (omega arith) e ka kb ps
