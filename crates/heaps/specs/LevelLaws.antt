-- What is proved of undoing and of the changes of tables: statements, each of which stands in the contract of a public function.
use Rattle.std.specs.Prelude.{◌≡◌, ℕ, suc, ◌+◌, ◌-◌, ◌<◌, ◌≤◌, true, ◌⊎◌, List, [], ◌∷◌, ◌++◌, length, slice_index_or}
use Rattle.cells.specs.declared.cell.Cell.{Cell}
use Rattle.cells.specs.declared.cell.Cell.TheVariants.{Reference, Pointer, Functor, Atom}
use Rattle.cells.specs.Cells.{in_range}
use Rattle.tables.specs.Tables.{Choice, Tables, used, cell_at, register, set_up, with_heap, push_cell, set_register, push_choice, keep_choices, choice_at}
use Rattle.heaps.specs.Leads.{heap_of, unbound}
use Rattle.heaps.specs.Levels.{back_to, last, retry, undo}
use Rattle.heaps.specs.Binding.{bind}
use Rattle.heaps.specs.Rules.{WordKeeps, Rules, Fits}

-- The tables keep the rules and fit the memory.
abbrev pub Stands : Tables → Type 0
Stands t = Rules t × Fits t

-- The word may stand in a register.
abbrev pub Keeps : Tables → Cell → Type 0
Keeps t w = WordKeeps (heap_of t.heap) (used t) w × (in_range w ≡ true)

abbrev pub HasChoice : Tables → Type 0
HasChoice t = 0 < length t.choices

-- Undoing keeps the rules.

abbrev pub StandsLast : Type 0
StandsLast = (t : Tables) → Stands t → Stands (last t)

abbrev pub StandsRetry : Type 0
StandsRetry = (t : Tables) → Stands t → Stands (retry t)

abbrev pub StandsUndo : Type 0
StandsUndo = (t : Tables) (k : ℕ) → Stands t → Stands (undo t k)

-- What undoing gives back.

-- A choice point just opened gives back what was there.
abbrev pub LastPushChoice : Type 0
LastPushChoice = (t : Tables) → last (push_choice t) ≡ t

-- Going back to a choice point that stays is undoing it and opening it again.
abbrev pub RetryLast : Type 0
RetryLast = (t : Tables) → Rules t → HasChoice t → retry t ≡ push_choice (last t)

-- Undoing to a choice point and then to an older one is undoing to the older one alone.
abbrev pub BackBack : Type 0
BackBack = (t : Tables) (c d : Choice) (cs ds : List Choice) → d.heap_top ≤ c.heap_top → d.trail_top ≤ c.trail_top → c.heap_top ≤ used t
    → back_to d ds (back_to c cs t) ≡ back_to d ds t

-- With the k oldest choice points kept, each of them undoes as before.
abbrev pub UndoKeepChoices : Type 0
UndoKeepChoices = (t : Tables) (k j : ℕ) → Rules t → 0 < k → 0 < j → undo (keep_choices t k) j ≡ undo t (length t.choices - k + j)

-- Older levels stay as they are: the newest choice point undoes a binding, a change of a register, and cells added to the heap.

abbrev pub LastBind : Type 0
LastBind = (t : Tables) (x : ℕ) (w : Cell) → Rules t → HasChoice t → unbound (heap_of t.heap) x ≡ true → last (bind t x w) ≡ last t

abbrev pub LastSetRegister : Type 0
LastSetRegister = (t : Tables) (r : ℕ) (w : Cell) → HasChoice t → last (set_register t r w) ≡ last t

abbrev pub LastMore : Type 0
LastMore = (t : Tables) (cells : List Cell) → Rules t → HasChoice t → last (with_heap t (t.heap ++ cells)) ≡ last t

-- The changes that keep the rules.

abbrev pub StandsSetUp : Type 0
StandsSetUp = Stands set_up

abbrev pub StandsSetRegister : Type 0
StandsSetRegister = (t : Tables) (r : ℕ) (w : Cell) → Keeps t w → Stands t → Stands (set_register t r w)

abbrev pub StandsPushChoice : Type 0
StandsPushChoice = (t : Tables) → length t.choices < 64 → Stands t → Stands (push_choice t)

abbrev pub StandsKeepChoices : Type 0
StandsKeepChoices = (t : Tables) (k : ℕ) → Stands t → Stands (keep_choices t k)

-- a new unbound variable
abbrev pub new_variable : Tables → Tables
new_variable t = push_cell t (Reference (used t))

abbrev pub StandsNewVariable : Type 0
StandsNewVariable = (t : Tables) → used t < 4096 → Stands t → Stands (new_variable t) × Keeps (new_variable t) (Reference (used t))

-- a new structure
abbrev pub new_structure : Tables → ℕ → ℕ → List Cell → Tables
new_structure t name arity args = with_heap t (t.heap ++ (Functor name arity ∷ args))

-- Each argument, the first of which comes into cell i, may stand in a register, or is a new unbound variable.
abbrev pub ArgumentsKeep : Tables → ℕ → List Cell → Type 0
ArgumentsKeep t i [] = Unit {0}
ArgumentsKeep t i (w ∷ ws) = (Keeps t w ⊎ (w ≡ Reference i)) × ArgumentsKeep t (suc i) ws

abbrev pub StandsNewStructure : Type 0
StandsNewStructure = (t : Tables) (name arity : ℕ) (args : List Cell) → length args ≡ arity → in_range (Functor name arity) ≡ true → used t + arity < 4096
    → ArgumentsKeep t (suc (used t)) args → Stands t → Stands (new_structure t name arity args) × Keeps (new_structure t name arity args) (Pointer (used t))

-- A word that may stand in a register may still do so after the heap has grown.
abbrev pub KeepsMore : Type 0
KeepsMore = (t : Tables) (cells : List Cell) (w : Cell) → Keeps t w → Keeps (with_heap t (t.heap ++ cells)) w

-- The words that may be copied into a register.

abbrev pub KeepsRegister : Type 0
KeepsRegister = (t : Tables) (r : ℕ) → Stands t → Keeps t (register t r)

abbrev pub KeepsSaved : Type 0
KeepsSaved = (t : Tables) (k r : ℕ) → Stands t → Keeps t (slice_index_or (choice_at t k).saved r (Atom 0))

abbrev pub KeepsArgument : Type 0
KeepsArgument = (t : Tables) (i name arity j : ℕ) → Stands t → i < used t → cell_at t i ≡ Functor name arity → i < j → j ≤ i + arity → Keeps t (cell_at t j)
