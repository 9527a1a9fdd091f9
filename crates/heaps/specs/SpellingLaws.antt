-- What is proved of spelled terms: statements, each of which stands in the contract of a public function.
use Rattle.std.specs.Prelude.{◌≡◌, ℕ, suc, ◌<◌, ◌≤◌, Bool, true, false, [], ◌∷◌, slice_set}
use Rattle.cells.specs.declared.cell.Cell.{Cell}
use Rattle.cells.specs.declared.cell.Cell.TheVariants.{Reference}
use Rattle.cells.specs.Cells.{in_range}
use Rattle.tables.specs.Tables.{Tables, used}
use Rattle.terms.specs.Terms.{Term, apply, occurs, only}
use Rattle.terms.specs.Renamings.{rename}
use Rattle.heaps.specs.Leads.{Heap, heap_of, LeadsBy, unbound, relocate, Acyclic}
use Rattle.heaps.specs.Spelling.{layer, spell_by, same, spell}
use Rattle.heaps.specs.Reached.{Reaches}
use Rattle.heaps.specs.Binding.{bind}
use Rattle.heaps.specs.Rules.{WordKeeps, Rules, Fits}
use Rattle.heaps.specs.Moving.{Moves}
use Rattle.heaps.specs.Ends.{end, steps_to_end}

-- s reads every word of the heap: what it makes of a word is one layer over what it makes of the words below.
abbrev pub Reads : (Term → Term) → Heap → (Cell → Term) → Type 0
Reads v h s = (c : Cell) → s c ≡ layer v h s c

-- The spelling reads the heap, so every word spells a term.
abbrev pub SpellLayer : Type 0
SpellLayer = (t : Tables) → Rules t → Reads same (heap_of t.heap) (spell t.heap)

-- Whatever reads the heap is the spelling, so every word spells one term only.
abbrev pub SpellOnly : Type 0
SpellOnly = (t : Tables) → Rules t → (s : Cell → Term) → Reads same (heap_of t.heap) s → (c : Cell) → s c ≡ spell t.heap c

-- More layers than the cells in use change nothing.
abbrev pub SpellMore : Type 0
SpellMore = (t : Tables) → Rules t → (g : ℕ) → used t < g → (c : Cell) → spell_by same (heap_of t.heap) g c ≡ spell t.heap c

-- Tables whose heaps agree on all that a word reaches spell the same term there.
abbrev pub SpellFrame : Type 0
SpellFrame = (t u : Tables) → Rules t → Rules u → (w : Cell) → ((i : ℕ) → Reaches (heap_of t.heap) (w ∷ []) i → heap_of t.heap i ≡ heap_of u.heap i)
    → spell t.heap w ≡ spell u.heap w

-- Ends of chains.

-- The end of a word's chain is no reference to a bound cell.
abbrev pub EndEnds : Type 0
EndEnds = (t : Tables) → Rules t → (c : Cell) (n : ℕ) → end t c ≡ Reference n → unbound (heap_of t.heap) n ≡ true

-- A word spells what the end of its chain spells, and the end is again a word as a register holds it.
abbrev pub SpellEnd : Type 0
SpellEnd = (t : Tables) → Rules t → (c : Cell) → spell t.heap (end t c) ≡ spell t.heap c

abbrev pub EndKeeps : Type 0
EndKeeps = (t : Tables) → Rules t → (c : Cell) → WordKeeps (heap_of t.heap) (used t) c → WordKeeps (heap_of t.heap) (used t) (end t c)

-- A reference to a bound cell is one step before the word in that cell, and no chain has more steps than there are cells in use.
abbrev pub EndStep : Type 0
EndStep = (t : Tables) → Rules t → (n : ℕ) → unbound (heap_of t.heap) n ≡ false
    → (end t (Reference n) ≡ end t (heap_of t.heap n)) × (steps_to_end t (Reference n) ≡ suc (steps_to_end t (heap_of t.heap n)))

abbrev pub StepsWithin : Type 0
StepsWithin = (t : Tables) → Rules t → (c : Cell) → steps_to_end t c ≤ used t

-- Binding.

-- Cell x may be bound to the word w: it is an unbound variable in use, w is a word as a register holds it,
-- and x does not occur in what w spells.
pub record Bindable (t : Tables) (x : ℕ) (w : Cell) : Type 0 where
  pub in_use : x < used t
  pub free : unbound (heap_of t.heap) x ≡ true
  pub keeps : WordKeeps (heap_of t.heap) (used t) w
  pub absent : occurs x (spell t.heap w) ≡ false

-- Binding a cell replaces its variable in all that is spelled.
abbrev pub SpellBind : Type 0
SpellBind = (t : Tables) (x : ℕ) (w : Cell) → Rules t → Bindable t x w
    → (d : Cell) → spell (bind t x w).heap d ≡ apply (only x (spell t.heap w)) (spell t.heap d)

-- Binding keeps the rules, so it makes no cycle, and each choice point is closed as before.
abbrev pub RulesBind : Type 0
RulesBind = (t : Tables) (x : ℕ) (w : Cell) → Rules t → Bindable t x w → Rules (bind t x w)

-- The trail has room for the binding: its entries are different cells in use.
abbrev pub FitsBind : Type 0
FitsBind = (t : Tables) (x : ℕ) (w : Cell) → Rules t → Fits t → Bindable t x w → in_range w ≡ true → Fits (bind t x w)

-- Moving and shortening.

-- Words that lead only to moved cells spell the same terms afterwards, with each variable renamed as its cell was moved.
abbrev pub SpellMoved : Type 0
SpellMoved = (t u : Tables) (s : ℕ → Bool) (f : ℕ → ℕ) → Rules t → Rules u → Moves (λ i. s i ≡ true) f (heap_of t.heap) (heap_of u.heap)
    → (w : Cell) → ((j : ℕ) → LeadsBy 0 w j → s j ≡ true) → spell u.heap (relocate f w) ≡ rename f (spell t.heap w)

-- Moving makes no cycle, where each bound cell of the new heap is one that was moved there.
abbrev pub AcyclicMoved : Type 0
AcyclicMoved = (s : ℕ → Bool) (f : ℕ → ℕ) (h k : Heap) → Moves (λ i. s i ≡ true) f h k → Acyclic h
    → ((j : ℕ) → unbound k j ≡ false → (i : ℕ) × (s i ≡ true) × (f i ≡ j)) → Acyclic k

-- A cell that refers to a bound cell may take over its word: no cycle is made, and every word spells the same.
abbrev pub SpellShorten : Type 0
SpellShorten = (t : Tables) (i n : ℕ) → Rules t → heap_of t.heap i ≡ Reference n → unbound (heap_of t.heap) i ≡ false → unbound (heap_of t.heap) n ≡ false
    → Acyclic (heap_of (slice_set t.heap i (heap_of t.heap n))) × ((c : Cell) → spell (slice_set t.heap i (heap_of t.heap n)) c ≡ spell t.heap c)
