-- What is proved of the cells that words reach: statements, which stand in the contract of a public function.
use Rattle.std.specs.Prelude.{◌≡◌, ℕ, ◌<◌, ◌≤◌, Bool, true, ◌⊎◌, ◌↔◌, List, ◌++◌}
use Rattle.cells.specs.declared.cell.Cell.{Cell}
use Rattle.cells.specs.declared.cell.Cell.TheVariants.{Reference}
use Rattle.tables.specs.Tables.{Tables, used}
use Rattle.marks.specs.Sets.{count_below}
use Rattle.heaps.specs.Lists.{Each, Among}
use Rattle.heaps.specs.Leads.{Heap, heap_of, LeadsBy}
use Rattle.heaps.specs.Reached.{Reaches, roots, Reached, reached_by, is_reached, reached_count}
use Rattle.heaps.specs.Levels.{last, undo}
use Rattle.heaps.specs.Rules.{WordKeeps, Rules}

-- each of the words could stand in a register
abbrev pub WordsKeep : Tables → List Cell → Type 0
WordsKeep t ws = Each (WordKeeps (heap_of t.heap) (used t)) ws

-- The roots are such words.
abbrev pub RootsKeep : Type 0
RootsKeep = (t : Tables) → Rules t → WordsKeep t (roots t)

-- What is reached is in use.
abbrev pub WordsReachUsed : Type 0
WordsReachUsed = (t : Tables) → Rules t → (ws : List Cell) → WordsKeep t ws → (k : ℕ) → Reaches (heap_of t.heap) ws k → k < used t

abbrev pub ReachedUsed : Type 0
ReachedUsed = (t : Tables) → Rules t → (k : ℕ) → Reached t k → k < used t

-- The test says true of exactly what is reached.
abbrev pub WordsDecided : Type 0
WordsDecided =
    (t : Tables)
    → Rules t
    → (ws : List Cell)
    → WordsKeep t ws
    → (k : ℕ)
    → (reached_by (used t) (heap_of t.heap) ws k ≡ true) ↔ Reaches (heap_of t.heap) ws k

abbrev pub ReachedDecided : Type 0
ReachedDecided = (t : Tables) → Rules t → (k : ℕ) → (is_reached t k ≡ true) ↔ Reached t k

-- A set holds what the words lead to, and what its members lead to.
pub record Holds (h : Heap) (ws : List Cell) (s : ℕ → Type 0) : Type 0 where
  pub starts : (w : Cell) (j : ℕ) → Among w ws → LeadsBy 0 w j → s j
  pub goes_on : (i j : ℕ) → s i → LeadsBy i (h i) j → s j

-- What the words reach is such a set, and every such set contains it.
abbrev pub ReachesLeast : Type 0
ReachesLeast =
    (h : Heap) (ws : List Cell)
    → Holds h ws (Reaches h ws)
    × ((s : ℕ → Bool) → Holds h ws (λ k. s k ≡ true) → (k : ℕ) → Reaches h ws k → s k ≡ true)

-- More words reach more, and two lists of words reach what one or the other does.
abbrev pub ReachesMore : Type 0
ReachesMore =
    (h : Heap) (ws vs : List Cell) → ((w : Cell) → Among w ws → Among w vs) → (k : ℕ) → Reaches h ws k → Reaches h vs k

abbrev pub ReachesJoined : Type 0
ReachesJoined = (h : Heap) (ws vs : List Cell) (k : ℕ) → Reaches h (ws ++ vs) k ↔ (Reaches h ws k ⊎ Reaches h vs k)

-- A change of cells that are not reached changes nothing of what is reached.
abbrev pub ReachesFrame : Type 0
ReachesFrame =
    (h g : Heap) (ws : List Cell) → ((i : ℕ) → Reaches h ws i → h i ≡ g i) → (k : ℕ) → Reaches h ws k ↔ Reaches g ws k

-- g is the heap h with some cells made unbound.
abbrev pub SomeUnbound : Heap → Heap → Type 0
SomeUnbound h g = (i : ℕ) → (g i ≡ Reference i) ⊎ (g i ≡ h i)

-- Then fewer words reach nothing new in it.
abbrev pub UnboundReaches : Type 0
UnboundReaches =
    (h g : Heap)
    → SomeUnbound h g
    → (ws vs : List Cell)
    → ((w : Cell) → Among w ws → Among w vs)
    → (k : ℕ)
    → Reaches g ws k
    → Reaches h vs k

-- What is reached after undoing was reached before.
abbrev pub LastReached : Type 0
LastReached = (t : Tables) (k : ℕ) → Reached (last t) k → Reached t k

abbrev pub UndoReached : Type 0
UndoReached = (t : Tables) (n k : ℕ) → Reached (undo t n) k → Reached t k

-- At most the cells in use are counted, and every set of exactly the reached cells has the same count,
-- whatever number of cells is looked through, if those in use are among them.
abbrev pub CountAtMost : Type 0
CountAtMost = (t : Tables) → reached_count t ≤ used t

abbrev pub CountOfSet : Type 0
CountOfSet =
    (t : Tables)
    → Rules t
    → (s : ℕ → Bool)
    → ((k : ℕ) → (s k ≡ true) ↔ Reached t k)
    → (n : ℕ)
    → used t ≤ n
    → count_below s n ≡ reached_count t
