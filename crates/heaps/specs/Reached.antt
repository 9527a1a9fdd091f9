-- The cells that words reach.
use Rattle.std.specs.Prelude.{ℕ, zero, suc, Bool, false, ◌||◌, List, [], ◌∷◌, ◌++◌, ◌==◌}
use Rattle.cells.specs.declared.cell.Cell.{Cell}
use Rattle.tables.specs.Tables.{Choice, Tables, used}
use Rattle.marks.specs.Sets.{count_below}
use Rattle.heaps.specs.Lists.{Among}
use Rattle.heaps.specs.Leads.{Heap, heap_of, first, many, LeadsBy}

-- the least set that holds what the words lead to and what its members lead to
pub data Reaches (h : Heap) (ws : List Cell) : ℕ → Type 0 where
  direct : {w : Cell} {j : ℕ} → Among w ws → LeadsBy 0 w j → Reaches h ws j
  onward : {i j : ℕ} → Reaches h ws i → LeadsBy i (h i) j → Reaches h ws j

abbrev pub saved_words : List Choice → List Cell
saved_words [] = []
saved_words (c ∷ cs) = c.saved ++ saved_words cs

-- the registers, and the saved registers from the newest choice point on
abbrev pub roots : Tables → List Cell
roots t = t.registers ++ saved_words t.choices

abbrev pub Reached : Tables → ℕ → Type 0
Reached t = Reaches (heap_of t.heap) (roots t)

-- The same as a test.

-- whether p holds of one of the m numbers from n on
abbrev pub any_from : ℕ → ℕ → (ℕ → Bool) → Bool
any_from n zero p = false
any_from n (suc m) p = p n || any_from (suc n) m p

-- whether cell i is cell k, or leads to it within g steps
abbrev pub within : ℕ → Heap → ℕ → ℕ → Bool
within zero h i k = i == k
within (suc g) h i k = i == k || any_from (first i (h i)) (many (h i)) (λ j. within g h j k)

abbrev pub reached_by : ℕ → Heap → List Cell → ℕ → Bool
reached_by g h [] k = false
reached_by g h (w ∷ ws) k = any_from (first 0 w) (many w) (λ j. within g h j k) || reached_by g h ws k

abbrev pub is_reached : Tables → ℕ → Bool
is_reached t k = reached_by (used t) (heap_of t.heap) (roots t) k

-- how many cells are reached
abbrev pub reached_count : Tables → ℕ
reached_count t = count_below (is_reached t) (used t)
