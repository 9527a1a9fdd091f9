-- What one step of a walk does to two words: where it goes on, the two words spell the same afterwards, every solution that reads
-- them alike stays one, and all that may stand in a register still may; where it stops, no solution reads the two words alike.
-- Two words that end at structures with the same functor have their arguments left to do.
use Rattle.std.proofs.Common.{◌≡◌, ℕ, suc, ◌+◌, ◌<◌, true, false, List, ◌∷◌, sym, refl, ap, ◌∙◌, subst, ap₂, subst₂, arith, Option, None}
use Rattle.cells.specs.declared.cell.Cell.{Cell}
use Rattle.cells.specs.declared.cell.Cell.TheVariants.{Reference, Pointer, Functor, Atom, Integer}
use Rattle.tables.specs.Tables.{Tables, cell_at}
use Rattle.terms.specs.Terms.{Label, named, whole, functor, node}
use Rattle.terms.proofs.SameLaws.{same_label_true, same_label_false}
use Rattle.heaps.specs.Lists.{Each}
use Rattle.heaps.specs.Spelling.{label_of, arity_of, run, spell}
use Rattle.heaps.specs.Binding.{bind}
use Rattle.heaps.specs.Ends.{end}
use Rattle.heaps.specs.LevelLaws.{Stands, Keeps}
use Rattle.heaps.proofs.EndLaws.{spell_end}
use Rattle.heaps.proofs.BindLaws.{keeps_bind}
use Rattle.heaps.proofs.BindRules.{rules_bind, fits_bind}
use Rattle.calls.specs.Unifying.{Pair, words, rows, Next, stop, go, meet}
use Rattle.calls.proofs.UnifyEnds.{end_ended, keeps_end, keeps_reference}
use Rattle.calls.specs.Pairs.{PairKeeps}
use Rattle.unifying.specs.Merging.{both_pointers, same_functor, arguments}
use Rattle.unifying.proofs.SolutionLaws.{Reading, Solution, solution_self, solution_end, solution_pointer, solution_bind, solution_bound, bound_alike}
use Rattle.unifying.proofs.Meetings.{Met, same_variable, same_constant, binding, failing, meets}

-- The pairs left once two words are done: those that were behind them, and an empty row after two constants.
pub data Rest (ps : List Pair) : List Pair → Type 0 where
  behind : Rest ps ps
  behind_row : Rest ps (rows 0 0 0 ∷ ps)

pub record Went (t : Tables) (a b : Cell) (ps : List Pair) (u : Tables) (qs : List Pair) : Type 0 where
  pub stands : Stands u
  pub keeps : (d : Cell) → Keeps t d → Keeps u d
  pub later : Solution t (spell u.heap)
  pub alike : spell u.heap a ≡ spell u.heap b
  pub solves : (s : Reading) → Solution t s → s a ≡ s b → Solution u s
  pub rest : Rest ps qs

stays : (t : Tables) (c d : Cell) (ps qs : List Pair) → Stands t → c ≡ d → Rest ps qs → Went t c d ps t qs
stays t c d ps qs st e r = record {
  stands = st;
  keeps = λ w k. k;
  later = solution_self t;
  alike = ap (spell t.heap) e;
  solves = λ s f q. f;
  rest = r;
}

ends_went : (t : Tables) (c d : Cell) (ps : List Pair) → Stands t → (x : Next) → Met t ps c d x → (u : Tables) (qs : List Pair) → x ≡ go u qs → Went t c d ps u qs
ends_went t c d ps st _ (same_variable e) u qs g = let p : t ≡ u = cc g in let q : ps ≡ qs = cc g in subst₂ (Went t c d ps) p q (stays t c d ps ps st e behind)
ends_went t c d ps st _ (same_constant e) u qs g = let p : t ≡ u = cc g in let q : (rows 0 0 0 ∷ ps) ≡ qs = cc g in
    subst₂ (Went t c d ps) p q (stays t c d ps (rows 0 0 0 ∷ ps) st e behind_row)
ends_went t c d ps st _ (binding x w b range turn) u qs g = let p : bind t x w ≡ u = cc g in let q : ps ≡ qs = cc g in subst₂ (Went t c d ps) p q (record {
  stands = (rules_bind t x w st.0 b, fits_bind t x w st.0 st.1 b range);
  keeps = λ e k. (keeps_bind t x w st.0 b e k.0, k.1);
  later = solution_bound t st.0 x w b;
  alike = (turn (spell (bind t x w).heap)).1 (bound_alike t st.0 x w b);
  solves = λ s f e. solution_bind t st.0 s f x w b ((turn s).0 e);
  rest = behind;
})
ends_went t c d ps st _ (failing f) u qs g = absurd (let z : ◌≡◌ {A = ℕ} 0 1 = cc g in omega arith)

ends_stop : (t : Tables) (c d : Cell) (ps : List Pair) → (x : Next) → Met t ps c d x → (r : Option Tables) → x ≡ stop r
    → (r ≡ None) × ((s : Reading) → Solution t s → s c ≡ s d → ⊥)
ends_stop t c d ps _ (same_variable e) r g = absurd (let z : ◌≡◌ {A = ℕ} 0 1 = cc g in omega arith)
ends_stop t c d ps _ (same_constant e) r g = absurd (let z : ◌≡◌ {A = ℕ} 0 1 = cc g in omega arith)
ends_stop t c d ps _ (binding x w b range turn) r g = absurd (let z : ◌≡◌ {A = ℕ} 0 1 = cc g in omega arith)
ends_stop t c d ps _ (failing f) r g = (cc g, f)

-- an argument of a structure is a word as a register holds it
argument : (t : Tables) → Stands t → (i j : ℕ) → Keeps t (Pointer i) → j < arity_of (cell_at t i) → Keeps t (Reference (suc i + j))
argument t st i j k lt = by (cell_at t i) refl lt
  where
    by : (c : Cell) → cell_at t i ≡ c → j < arity_of c → Keeps t (Reference (suc i + j))
    by (Reference n) e l = absurd (omega arith)
    by (Pointer n) e l = absurd (omega arith)
    by (Functor name arity) e l = keeps_reference t (suc i + j) st.1 (st.0.arguments i name arity (suc i + j) k.0.0 e (omega arith) (omega arith))
    by (Atom n) e l = absurd (omega arith)
    by (Integer z) e l = absurd (omega arith)

-- a functor's label says how many arguments it has
abbrev count : Label → ℕ
count (named n) = 0
count (whole z) = 0
count (functor name arity) = arity

arity_count : (c : Cell) → arity_of c ≡ count (label_of c)
arity_count (Reference n) = refl
arity_count (Pointer n) = refl
arity_count (Functor name arity) = refl
arity_count (Atom n) = refl
arity_count (Integer z) = refl

module _ (t : Tables) (st : Stands t) (a b : Cell) (ka : Keeps t a) (kb : Keeps t b) where
  -- a solution reads the ends as it reads the words
  pub ends_alike : (s : Reading) → Solution t s → s a ≡ s b → s (end t a) ≡ s (end t b)
  ends_alike s f e = solution_end t st.0 s f a ∙ e ∙ sym (solution_end t st.0 s f b)

  words_alike : (s : Reading) → Solution t s → s (end t a) ≡ s (end t b) → s a ≡ s b
  words_alike s f e = sym (solution_end t st.0 s f a) ∙ e ∙ solution_end t st.0 s f b

  pub met : (ps : List Pair) → both_pointers (end t a) (end t b) ≡ false → Met t ps (end t a) (end t b) (meet t (end t a) (end t b) ps)
  met ps apart = meets t st.0 ps (end_ended t st.0 a ka.0) (end_ended t st.0 b kb.0) (spell_end t st.0 a) (spell_end t st.0 b)
      (keeps_end t a st ka) (keeps_end t b st kb) apart

  pub words_went : (ps qs : List Pair) (u : Tables) → both_pointers (end t a) (end t b) ≡ false → meet t (end t a) (end t b) ps ≡ go u qs → Went t a b ps u qs
  words_went ps qs u apart e = let w = ends_went t (end t a) (end t b) ps st _ (met ps apart) u qs e in record {
    stands = w.stands;
    keeps = w.keeps;
    later = w.later;
    alike = words_alike (spell u.heap) w.later w.alike;
    solves = λ s f q. w.solves s f (ends_alike s f q);
    rest = w.rest;
  }

  pub words_stop : (ps : List Pair) (r : Option Tables) → both_pointers (end t a) (end t b) ≡ false → meet t (end t a) (end t b) ps ≡ stop r
      → (r ≡ None) × ((s : Reading) → Solution t s → s a ≡ s b → ⊥)
  words_stop ps r apart e = let w = ends_stop t (end t a) (end t b) ps _ (met ps apart) r e in (w.0, λ s f q. w.1 s f (ends_alike s f q))

  -- words that end at structures
  module _ (p q : ℕ) (ea : end t a ≡ Pointer p) (eb : end t b ≡ Pointer q) where
    pub reads_first : (s : Reading) → Solution t s → s a ≡ s (Pointer p)
    reads_first s f = sym (solution_end t st.0 s f a) ∙ ap s ea

    pub reads_second : (s : Reading) → Solution t s → s b ≡ s (Pointer q)
    reads_second s f = sym (solution_end t st.0 s f b) ∙ ap s eb

    keeps_first : Keeps t (Pointer p)
    keeps_first = subst (Keeps t) ea (keeps_end t a st ka)

    keeps_second : Keeps t (Pointer q)
    keeps_second = subst (Keeps t) eb (keeps_end t b st kb)

    module _ (same : same_functor t p q ≡ true) where
      label : label_of (cell_at t p) ≡ label_of (cell_at t q)
      label = same_label_true _ _ same

      arity : arity_of (cell_at t p) ≡ arity_of (cell_at t q)
      arity = arity_count (cell_at t p) ∙ ap count label ∙ sym (arity_count (cell_at t q))

      pub arguments_keep : PairKeeps t (arguments t p q)
      arguments_keep = λ j lt. (argument t st p j keeps_first lt, argument t st q j keeps_second (let e = arity in omega arith))

      pub second_structure : (s : Reading) → Solution t s → s (Pointer q) ≡ node (label_of (cell_at t p)) (run s (suc q) (arity_of (cell_at t p)))
      second_structure s f = solution_pointer t st.0 s f q ∙ ap₂ (λ (l : Label) (k : ℕ). node l (run s (suc q) k)) (sym label) (sym arity)

    -- structures that a solution reads alike have the same functor
    pub functors_alike : (s : Reading) → Solution t s → s a ≡ s b → same_functor t p q ≡ false → ⊥
    functors_alike s f e apart =
        let z : node (label_of (cell_at t p)) (run s (suc p) (arity_of (cell_at t p))) ≡ node (label_of (cell_at t q)) (run s (suc q) (arity_of (cell_at t q))) =
        sym (solution_pointer t st.0 s f p) ∙ sym (reads_first s f) ∙ e ∙ reads_second s f ∙ solution_pointer t st.0 s f q in
        same_label_false (label_of (cell_at t p)) (label_of (cell_at t q)) apart (cc z)

-- one argument of two rows, and the others
pub row_keeps : (t : Tables) (i j k : ℕ) → PairKeeps t (rows i j (suc k)) → PairKeeps t (words (Reference i) (Reference j)) × PairKeeps t (rows (suc i) (suc j) k)
row_keeps t i j k v = (
  at i j (i + 0) (j + 0) (omega arith) (omega arith) (v 0 (omega arith)),
  λ m lt. at (suc i + m) (suc j + m) (i + suc m) (j + suc m) (omega arith) (omega arith) (v (suc m) (omega arith)),
)
  where
    at : (x y v w : ℕ) → v ≡ x → w ≡ y → Keeps t (Reference v) × Keeps t (Reference w) → Keeps t (Reference x) × Keeps t (Reference y)
    at x y v w e g p = subst₂ (λ (m n : ℕ). Keeps t (Reference m) × Keeps t (Reference n)) e g p

-- the pairs left may stand in registers if those behind may
pub rest_keeps : (t : Tables) (ps qs : List Pair) → Rest ps qs → Each (PairKeeps t) ps → Each (PairKeeps t) qs
rest_keeps t ps _ behind v = v
rest_keeps t ps _ behind_row v = (λ m lt. absurd (omega arith), v)
