-- The first cell on a cycle; stretches of cells, ranks of cells, and sets of cells that lead to a cell.
use Rattle.std.specs.Prelude.{◌≡◌, ℕ, ◌<◌, ◌≤◌, Bool, true, false, ◌⊎◌, ◌↔◌, Option}
use Rattle.tables.specs.Tables.{Tables, used}
use Rattle.heaps.specs.Leads.{Heap, heap_of, Leads, Way}
use Rattle.heaps.specs.Reached.{within}
use Rattle.heaps.specs.RuleTests.{on_cycle, lowest_from}

abbrev pub first_on_cycle : Tables → Option ℕ
first_on_cycle t = lowest_from 0 (used t) (on_cycle (heap_of t.heap) (used t))

-- the cells from a on that are below b
abbrev pub Between : ℕ → ℕ → ℕ → Type 0
Between a b j = (a ≤ j) × (j < b)

-- These are the cells below n that cell i leads to.
abbrev pub Spans : Heap → ℕ → ℕ → ℕ → ℕ → Type 0
Spans h n i a b = (j : ℕ) → Between a b j ↔ (Leads h i j × (j < n))

-- Ranks of cells.

-- cell i leads to no cell in use of a rank below the limit
abbrev pub NoneBelow : Heap → ℕ → (ℕ → ℕ) → ℕ → ℕ → Type 0
NoneBelow h n rank i limit = (j : ℕ) → Leads h i j → j < n → limit ≤ rank j

-- the cells before c lead only to cells of a higher rank
abbrev pub RisesBefore : Heap → ℕ → (ℕ → ℕ) → ℕ → Type 0
RisesBefore h n rank c = (i : ℕ) → i < c → (j : ℕ) → Leads h i j → j < n → rank i < rank j

-- no cell leads to one of a lower rank
abbrev pub NoneFalls : Heap → ℕ → (ℕ → ℕ) → Type 0
NoneFalls h n rank = (i : ℕ) → i < n → (j : ℕ) → Leads h i j → j < n → rank i ≤ rank j

-- Sets of cells from which a way leads to cell k.

abbrev pub LeadTo : Heap → ℕ → (ℕ → Bool) → Type 0
LeadTo h k s = (i : ℕ) → s i ≡ true → (i ≡ k) ⊎ Way h i k

-- the set has all cells that lead to k within g steps
abbrev pub HasWithin : Heap → ℕ → ℕ → (ℕ → Bool) → Type 0
HasWithin h k g s = (i : ℕ) → within g h i k ≡ true → s i ≡ true

-- cell i leads to a member
abbrev pub LeadsInto : Heap → ℕ → (ℕ → Bool) → Type 0
LeadsInto h i s = (j : ℕ) × (Leads h i j × (s j ≡ true))

-- cell i leads to no member below n
abbrev pub LeadsPast : Heap → ℕ → ℕ → (ℕ → Bool) → Type 0
LeadsPast h n i s = (j : ℕ) → Leads h i j → j < n → s j ≡ false

-- t is the set s with each cell below m that leads to a member below n, and with no cell that leads to no member
pub record Round (h : Heap) (m n : ℕ) (s t : ℕ → Bool) : Type 0 where
  pub kept : (i : ℕ) → s i ≡ true → t i ≡ true
  pub added : (i j : ℕ) → i < m → Leads h i j → j < n → s j ≡ true → t i ≡ true
  pub sound : (k : ℕ) → LeadTo h k s → LeadTo h k t
