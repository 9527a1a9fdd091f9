-- Walks with merges, step by step. A walk goes from tables, merges and pairs still to do to a result; unifying (`MemoRun`) and
-- comparing (`SameRun`) are two such walks.
use Rattle.std.specs.Prelude.{◌≡◌, ℕ, zero, suc, ◌+◌, ◌-◌, ◌*◌, ◌<◌, ◌≤◌, Bool, true, false, List, [], ◌∷◌, length, Option, Some, None}
use Rattle.cells.specs.declared.cell.Cell.{Cell}
use Rattle.cells.specs.declared.cell.Cell.TheVariants.{Reference, Pointer}
use Rattle.tables.specs.Tables.{Tables}
use Rattle.heaps.specs.Lists.{Each}
use Rattle.heaps.specs.Ends.{end}
use Rattle.calls.specs.Pairs.{PairKeeps}
use Rattle.calls.specs.Unifying.{Pair, words, rows}
use Rattle.classes.specs.Merges.{Merge, same_class}
use Rattle.unifying.specs.Merging.{same_functor, arguments}

-- from tables, merges and pairs to a result
abbrev pub Run : Type 0 → Type 1
Run X = Tables → List Merge → List Pair → X → Type 0

-- What both walks do alike: with rows of arguments, and with two words that end at structures.
pub record Walk (X : Type 0) (R : Run X) (no : X) : Type 0 where
  pub empty : (t : Tables) (ms : List Merge) (i j : ℕ) (ps : List Pair) (r : X) → R t ms ps r → R t ms (rows i j zero ∷ ps) r
  pub row : (t : Tables) (ms : List Merge) (i j k : ℕ) (ps : List Pair) (r : X)
      → R t ms (words (Reference i) (Reference j) ∷ rows (suc i) (suc j) k ∷ ps) r → R t ms (rows i j (suc k) ∷ ps) r
  pub skip : (t : Tables) (ms : List Merge) (a b : Cell) (p q : ℕ) (ps : List Pair) (r : X) → end t a ≡ Pointer p → end t b ≡ Pointer q
      → same_class ms p q ≡ true → R t ms ps r → R t ms (words a b ∷ ps) r
  pub join : (t : Tables) (ms : List Merge) (a b : Cell) (p q : ℕ) (ps : List Pair) (r : X) → end t a ≡ Pointer p → end t b ≡ Pointer q
      → same_class ms p q ≡ false → same_functor t p q ≡ true → R t ((p, q) ∷ ms) (arguments t p q ∷ ps) r → R t ms (words a b ∷ ps) r
  pub clash : (t : Tables) (ms : List Merge) (a b : Cell) (p q : ℕ) (ps : List Pair) → end t a ≡ Pointer p → end t b ≡ Pointer q
      → same_class ms p q ≡ false → same_functor t p q ≡ false → R t ms (words a b ∷ ps) no

-- Two structures have met: from merges and pairs to later ones, and whether the walk goes on.
pub data StructuresMet (t : Tables) (p q : ℕ) (ms : List Merge) (ps : List Pair) : List Merge → List Pair → Bool → Type 0 where
  skips : same_class ms p q ≡ true → StructuresMet t p q ms ps ms ps true
  joins : same_class ms p q ≡ false → same_functor t p q ≡ true → StructuresMet t p q ms ps ((p, q) ∷ ms) (arguments t p q ∷ ps) true
  clashes : same_class ms p q ≡ false → same_functor t p q ≡ false → StructuresMet t p q ms ps ms ps false

-- The next two argument cells are taken from the pairs still to do. Rows that have none left leave.
pub data Draws : List Pair → Option (ℕ × ℕ) → List Pair → Type 0 where
  none_left : Draws [] None []
  row_done : {i j : ℕ} {ps qs : List Pair} {o : Option (ℕ × ℕ)} → Draws ps o qs → Draws (rows i j zero ∷ ps) o qs
  row_first : {i j k : ℕ} {ps : List Pair} → Draws (rows i j (suc k) ∷ ps) (Some (i, j)) (rows (suc i) (suc j) k ∷ ps)

-- a row with cells left begins at cells of the memory
abbrev pub Inside : Pair → Type 0
Inside (words a b) = Unit {0}
Inside (rows i j k) = 0 < k → (i < 4096) × (j < 4096)

-- how many words and rows are left, with the places of the rows
abbrev pub weight : List Pair → ℕ
weight [] = 0
weight (words a b ∷ ps) = suc (weight ps)
weight (rows i j k ∷ ps) = suc (k + weight ps)

-- Two words have been dealt with: from tables t, merges and pairs to later ones, and whether the walk goes on.
-- A structure has at most 32 arguments, so a merge adds at most 33 to the weight.
pub record Advanced (X : Type 0) (R : Run X) (no : X) (t u : Tables) (a b : Cell) (ms : List Merge) (ps : List Pair) (later : List Merge) (qs : List Pair) (yes : Bool) : Type 0 where
  pub on : yes ≡ true → (r : X) → R u later qs r → R t ms (words a b ∷ ps) r
  pub off : yes ≡ false → R t ms (words a b ∷ ps) no
  pub keeps : Each (PairKeeps t) ps → Each (PairKeeps u) qs
  pub room : length qs + length ms ≤ length ps + length later
  pub lighter : weight qs + 34 * length ms ≤ weight ps + 34 * length later

-- A walk under way: what follows from the tables t, merges and pairs of now follows from those of the beginning.
pub record Underway (X : Type 0) (R : Run X) (s : Tables) (first : List Merge) (start : List Pair) (t : Tables) (ms : List Merge) (ps : List Pair) : Type 0 where
  pub run : (r : X) → R t ms ps r → R s first start r
  pub keep : Each (PairKeeps t) ps
  pub few : length ps ≤ length ms

-- what each step makes less: merges still possible, and then what is left to do
abbrev pub effort : List Merge → List Pair → ℕ
effort ms ps = 34 * (4096 - length ms) + weight ps
