-- Unifying and comparing two words where terms share structure, without going through the same pair of structures again and again.
-- The walk keeps classes of structures already set equal. Where it meets two structures of one class it goes on with the rest;
-- else it joins their classes and goes through their arguments, left to right. In all else it is the walk of `unify_words`.
-- A run is the walk from some point to its end, with its result; a program that takes these steps has the same result.
use Rattle.std.specs.Prelude.{◌≡◌, ℕ, zero, suc, Bool, true, false, ◌&&◌, List, [], ◌∷◌, ◌≢◌, Option, Some, None}
use Rattle.cells.specs.declared.cell.Cell.{Cell}
use Rattle.cells.specs.declared.cell.Cell.TheVariants.{Reference, Pointer, Functor, Atom, Integer}
use Rattle.tables.specs.Tables.{Tables, cell_at}
use Rattle.terms.specs.Terms.{same_label}
use Rattle.heaps.specs.Spelling.{label_of, arity_of}
use Rattle.heaps.specs.Ends.{end}
use Rattle.calls.specs.Unifying.{Pair, words, rows, stop, go, meet}
use Rattle.classes.specs.Merges.{Merge, same_class}

abbrev pub is_pointer : Cell → Bool
is_pointer (Reference n) = false
is_pointer (Pointer n) = true
is_pointer (Functor name arity) = false
is_pointer (Atom n) = false
is_pointer (Integer z) = false

abbrev pub both_pointers : Cell → Cell → Bool
both_pointers c d = is_pointer c && is_pointer d

-- the functor cells of two words that are both pointers, or none if they are not
abbrev pub BothStructures : Cell → Cell → Option (ℕ × ℕ) → Type 0
BothStructures c d None = both_pointers c d ≡ false
BothStructures c d (Some s) = (c ≡ Pointer s.0) × (d ≡ Pointer s.1)

abbrev pub same_functor : Tables → ℕ → ℕ → Bool
same_functor t p q = same_label (label_of (cell_at t p)) (label_of (cell_at t q))

-- the arguments of two structures with the same functor
abbrev pub arguments : Tables → ℕ → ℕ → Pair
arguments t p q = rows (suc p) (suc q) (arity_of (cell_at t p))

-- Unifying with merges. Words that do not both end at structures meet as they do without merges.
pub data MemoRun : Tables → List Merge → List Pair → Option Tables → Type 0 where
  finished : {t : Tables} {merges : List Merge} → MemoRun t merges [] (Some t)
  no_more : {t : Tables} {merges : List Merge} {i j : ℕ} {ps : List Pair} {r : Option Tables} → MemoRun t merges ps r → MemoRun t merges (rows i j zero ∷ ps) r
  one_more : {t : Tables} {merges : List Merge} {i j k : ℕ} {ps : List Pair} {r : Option Tables}
      → MemoRun t merges (words (Reference i) (Reference j) ∷ rows (suc i) (suc j) k ∷ ps) r → MemoRun t merges (rows i j (suc k) ∷ ps) r
  skipped : {t : Tables} {merges : List Merge} {a b : Cell} {ps : List Pair} {r : Option Tables} (p q : ℕ) → end t a ≡ Pointer p → end t b ≡ Pointer q
      → same_class merges p q ≡ true → MemoRun t merges ps r → MemoRun t merges (words a b ∷ ps) r
  merged : {t : Tables} {merges : List Merge} {a b : Cell} {ps : List Pair} {r : Option Tables} (p q : ℕ) → end t a ≡ Pointer p → end t b ≡ Pointer q
      → same_class merges p q ≡ false → same_functor t p q ≡ true → MemoRun t ((p, q) ∷ merges) (arguments t p q ∷ ps) r → MemoRun t merges (words a b ∷ ps) r
  clashed : {t : Tables} {merges : List Merge} {a b : Cell} {ps : List Pair} (p q : ℕ) → end t a ≡ Pointer p → end t b ≡ Pointer q
      → same_class merges p q ≡ false → same_functor t p q ≡ false → MemoRun t merges (words a b ∷ ps) None
  stopped : {t : Tables} {merges : List Merge} {a b : Cell} {ps : List Pair} {r : Option Tables}
      → both_pointers (end t a) (end t b) ≡ false → meet t (end t a) (end t b) ps ≡ stop r → MemoRun t merges (words a b ∷ ps) r
  went_on : {t u : Tables} {merges : List Merge} {a b : Cell} {ps qs : List Pair} {r : Option Tables}
      → both_pointers (end t a) (end t b) ≡ false → meet t (end t a) (end t b) ps ≡ go u qs → MemoRun u merges qs r → MemoRun t merges (words a b ∷ ps) r

-- Comparing with merges: whether the pairs spell the same terms. Words that do not both end at structures must end alike:
-- at the same variable, or at the same atom or integer.
pub data SameRun (t : Tables) : List Merge → List Pair → Bool → Type 0 where
  finished : {merges : List Merge} → SameRun t merges [] true
  no_more : {merges : List Merge} {i j : ℕ} {ps : List Pair} {r : Bool} → SameRun t merges ps r → SameRun t merges (rows i j zero ∷ ps) r
  one_more : {merges : List Merge} {i j k : ℕ} {ps : List Pair} {r : Bool}
      → SameRun t merges (words (Reference i) (Reference j) ∷ rows (suc i) (suc j) k ∷ ps) r → SameRun t merges (rows i j (suc k) ∷ ps) r
  skipped : {merges : List Merge} {a b : Cell} {ps : List Pair} {r : Bool} (p q : ℕ) → end t a ≡ Pointer p → end t b ≡ Pointer q
      → same_class merges p q ≡ true → SameRun t merges ps r → SameRun t merges (words a b ∷ ps) r
  merged : {merges : List Merge} {a b : Cell} {ps : List Pair} {r : Bool} (p q : ℕ) → end t a ≡ Pointer p → end t b ≡ Pointer q
      → same_class merges p q ≡ false → same_functor t p q ≡ true → SameRun t ((p, q) ∷ merges) (arguments t p q ∷ ps) r → SameRun t merges (words a b ∷ ps) r
  clashed : {merges : List Merge} {a b : Cell} {ps : List Pair} (p q : ℕ) → end t a ≡ Pointer p → end t b ≡ Pointer q
      → same_class merges p q ≡ false → same_functor t p q ≡ false → SameRun t merges (words a b ∷ ps) false
  alike : {merges : List Merge} {a b : Cell} {ps : List Pair} {r : Bool}
      → both_pointers (end t a) (end t b) ≡ false → end t a ≡ end t b → SameRun t merges ps r → SameRun t merges (words a b ∷ ps) r
  differing : {merges : List Merge} {a b : Cell} {ps : List Pair}
      → both_pointers (end t a) (end t b) ≡ false → (end t a ≢ end t b) → SameRun t merges (words a b ∷ ps) false
