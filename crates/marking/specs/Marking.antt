-- What marking gives, on a heap and from given words.
use Rattle.std.specs.Prelude.{◌≡◌, ℕ, ◌<◌, Bool, true, ◌⊎◌, List}
use Rattle.cells.specs.declared.cell.Cell.{Cell}
use Rattle.tables.specs.Tables.{Tables}
use Rattle.heaps.specs.Lists.{Among}
use Rattle.heaps.specs.Leads.{Heap, LeadsBy}
use Rattle.heaps.specs.Reached.{Reaches, Reached}

-- the members of the set lead only to members
abbrev pub ClosedUnder : Heap → (ℕ → Bool) → Type 0
ClosedUnder h s = (i j : ℕ) → s i ≡ true → LeadsBy i (h i) j → s j ≡ true

-- one of the words leads to cell k
abbrev pub LedTo : List Cell → ℕ → Type 0
LedTo ws k = (w : Cell) × Among w ws × LeadsBy 0 w k

-- The words lead only to cells that the memory has, and so do the cells.
-- The rules give both, and a cell that is made unbound does no harm to them.
abbrev pub WordsLead : List Cell → Type 0
WordsLead ws = (k : ℕ) → LedTo ws k → k < 4096

abbrev pub CellsLead : Heap → Type 0
CellsLead h = (i j : ℕ) → i < 4096 → LeadsBy i (h i) j → j < 4096

-- the set t is the set s and all that the words reach
pub record MarkedAll (h : Heap) (ws : List Cell) (s t : ℕ → Bool) : Type 0 where
  pub only : (k : ℕ) → t k ≡ true → (s k ≡ true) ⊎ Reaches h ws k
  pub kept : (k : ℕ) → s k ≡ true → t k ≡ true
  pub all : (k : ℕ) → Reaches h ws k → t k ≡ true

-- the set s has exactly the reached cells
abbrev pub MarksReached : Tables → (ℕ → Bool) → Type 0
MarksReached t s = (k : ℕ) → (s k ≡ true → Reached t k) × (Reached t k → s k ≡ true)
