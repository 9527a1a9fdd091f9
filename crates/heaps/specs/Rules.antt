-- What tables must keep: that they fit the memory, and the eight table rules.
use Rattle.std.specs.Prelude.{◌≡◌, ℕ, ◌+◌, ◌<◌, ◌≤◌, true, false, List, [], ◌∷◌, length, take}
use Rattle.cells.specs.declared.cell.Cell.{Cell}
use Rattle.cells.specs.declared.cell.Cell.TheVariants.{Reference, Pointer, Functor, Atom, Integer}
use Rattle.cells.specs.Cells.{in_range}
use Rattle.tables.specs.Tables.{Choice, Tables, used}
use Rattle.heaps.specs.Lists.{Each, Different}
use Rattle.heaps.specs.Leads.{Heap, heap_of, LeadsBy, unbound, is_functor, Acyclic}
use Rattle.heaps.specs.Levels.{seen_from}

-- Rule 1: each reference in the heap leads to a cell in use that is no functor.
abbrev pub ReferencesLead : Heap → ℕ → Type 0
ReferencesLead h n = (i m : ℕ) → i < n → h i ≡ Reference m → (m < n) × (is_functor (h m) ≡ false)

-- Rule 2: each pointer in the heap leads to a functor in use.
abbrev pub PointersLead : Heap → ℕ → Type 0
PointersLead h n = (i m : ℕ) → i < n → h i ≡ Pointer m → (m < n) × (is_functor (h m) ≡ true)

-- Rule 3: each functor's argument cells are in use, and none is a functor.
abbrev pub ArgumentsStand : Heap → ℕ → Type 0
ArgumentsStand h n = (i name arity j : ℕ) → i < n → h i ≡ Functor name arity → i < j → j ≤ i + arity → (j < n) × (is_functor (h j) ≡ false)

-- Rule 4: registers and saved registers hold no functor, and keep rules 1 and 2.
abbrev pub WordKeeps : Heap → ℕ → Cell → Type 0
WordKeeps h n (Reference m) = (m < n) × (is_functor (h m) ≡ false)
WordKeeps h n (Pointer m) = (m < n) × (is_functor (h m) ≡ true)
WordKeeps h n (Functor name arity) = ⊥
WordKeeps h n (Atom a) = Unit {0}
WordKeeps h n (Integer z) = Unit {0}

abbrev pub RegistersKeep : Tables → Type 0
RegistersKeep t =
    Each (WordKeeps (heap_of t.heap) (used t)) t.registers
    × Each (λ c. Each (WordKeeps (heap_of t.heap) (used t)) c.saved) t.choices

-- Rule 5: trail entries name different cells in use, and none is unbound or a functor.
abbrev pub EntryNames : Heap → ℕ → ℕ → Type 0
EntryNames h n e = (e < n) × (unbound h e ≡ false) × (is_functor (h e) ≡ false)

abbrev pub TrailNames : Tables → Type 0
TrailNames t = Different t.trail × Each (EntryNames (heap_of t.heap) (used t)) t.trail

-- Rule 6: heap tops and trail tops never fall from an older choice point to a newer one, and none passes the number in use.
abbrev pub TopsFall : ℕ → ℕ → List Choice → Type 0
TopsFall cells entries [] = Unit {0}
TopsFall cells entries (c ∷ cs) = (c.heap_top ≤ cells) × (c.trail_top ≤ entries) × TopsFall c.heap_top c.trail_top cs

-- Rule 7: no cell leads back to itself, through other cells either, apart from an unbound variable's own reference.
-- This is Acyclic.

-- Rule 8: with the trail entries from a choice point's trail top on undone, each cell below its heap top, and each of
-- its saved registers, leads only below that heap top; entries before its trail top name cells below its heap top.
pub record Closed (cells : List Cell) (trail : List ℕ) (c : Choice) : Type 0 where
  pub below : (i j : ℕ) → i < c.heap_top → LeadsBy i (heap_of (seen_from c cells trail) i) j → j < c.heap_top
  pub saved : Each (λ w. (j : ℕ) → LeadsBy 0 w j → j < c.heap_top) c.saved
  pub older : Each (λ e. e < c.heap_top) (take c.trail_top trail)
  deriving IsProp as Closed-prop

pub record Rules (t : Tables) : Type 0 where
  pub references : ReferencesLead (heap_of t.heap) (used t)
  pub pointers : PointersLead (heap_of t.heap) (used t)
  pub arguments : ArgumentsStand (heap_of t.heap) (used t)
  pub registers : RegistersKeep t
  pub trail : TrailNames t
  pub tops : TopsFall (used t) (length t.trail) t.choices
  pub acyclic : Acyclic (heap_of t.heap)
  pub levels : Each (Closed t.heap t.trail) t.choices
  deriving IsProp as Rules-prop

-- The tables fit the memory: so many places, eight registers, and numbers in range.
pub record Fits (t : Tables) : Type 0 where
  pub cells : used t ≤ 4096
  pub entries : length t.trail ≤ 4096
  pub points : length t.choices ≤ 64
  pub registers : length t.registers ≡ 8
  pub saved : Each (λ c. length c.saved ≡ 8) t.choices
  pub heap_range : Each (λ c. in_range c ≡ true) t.heap
  pub register_range : Each (λ c. in_range c ≡ true) t.registers
  pub saved_range : Each (λ p. Each (λ c. in_range c ≡ true) p.saved) t.choices
  deriving IsProp as Fits-prop
