-- What is proved of the tests of places: they decide the rules, and the fault of tables is the lowest one.
use Rattle.std.specs.Prelude.{◌≡◌, ℕ, ◌+◌, ◌<◌, ◌≤◌, true, false, ◌⊎◌, ◌↔◌, List, [], ◌∷◌, length, Some, None}
use Rattle.cells.specs.declared.cell.Cell.{Cell}
use Rattle.tables.specs.Tables.{Choice, Tables, used}
use Rattle.heaps.specs.declared.rule.Rule.{Rule}
use Rattle.heaps.specs.declared.rule.Rule.TheVariants.{References, Pointers, Arguments, Registers, Trail, Tops, Cycles, Levels}
use Rattle.heaps.specs.declared.rule.Fault.{Fault}
use Rattle.heaps.specs.Lists.{Each}
use Rattle.heaps.specs.Leads.{heap_of, Way, Acyclic}
use Rattle.heaps.specs.Rules.{ReferencesLead, PointersLead, ArgumentsStand, RegistersKeep, TrailNames, TopsFall, Closed, Rules}
use Rattle.heaps.specs.RuleTests.{on_cycle, leaks, Part, parts_of, fault, rule_number}

-- what each rule says
abbrev pub Holds : Tables → Rule → Type 0
Holds t References = ReferencesLead (heap_of t.heap) (used t)
Holds t Pointers = PointersLead (heap_of t.heap) (used t)
Holds t Arguments = ArgumentsStand (heap_of t.heap) (used t)
Holds t Registers = RegistersKeep t
Holds t Trail = TrailNames t
Holds t Tops = TopsFall (used t) (length t.trail) t.choices
Holds t Cycles = Acyclic (heap_of t.heap)
Holds t Levels = Each (Closed t.heap t.trail) t.choices

-- Images give eight words for the registers and eight for each choice point.
pub record InEights (t : Tables) : Type 0 where
  pub registers : length t.registers ≡ 8
  pub saved : Each (λ c. length c.saved ≡ 8) t.choices

-- no place is at fault
abbrev pub Faultless : List Part → Type 0
Faultless = Each (λ p. (i : ℕ) → i < p.places → p.fault i ≡ false)

-- A rule holds exactly where no place that it speaks of is at fault.
abbrev pub RuleDecided : Type 0
RuleDecided = (t : Tables) → InEights t → (r : Rule) → Holds t r ↔ Faultless (parts_of t r)

-- The places of rules 7 and 8 that are at fault: the cells that come back to themselves, and the choice points whose levels leak.
abbrev pub CycleDecided : Type 0
CycleDecided = (t : Tables) (i : ℕ) → (on_cycle (heap_of t.heap) (used t) i ≡ true) ↔ Way (heap_of t.heap) i i

abbrev pub LevelDecided : Type 0
LevelDecided = (cells : List Cell) (trail : List ℕ) (c : Choice) → (leaks cells trail c ≡ false) ↔ Closed cells trail c

-- There is no fault exactly where the rules hold.
abbrev pub FaultNone : Type 0
FaultNone = (t : Tables) → InEights t → (fault t ≡ None) ↔ Rules t

-- the line of a place at fault
abbrev pub AtFault : List Part → ℕ → Type 0
AtFault [] l = ⊥
AtFault (p ∷ ps) l = ((i : ℕ) × (i < p.places) × (p.fault i ≡ true) × (l ≡ p.line + i)) ⊎ AtFault ps l

-- The rule is broken and the rules before it hold; the line is at fault, and no lower line is.
pub record Lowest (t : Tables) (f : Fault) : Type 0 where
  pub broken : Holds t f.rule → ⊥
  pub before : (r : Rule) → rule_number r < rule_number f.rule → Holds t r
  pub line : AtFault (parts_of t f.rule) f.line
  pub lower : (l : ℕ) → AtFault (parts_of t f.rule) l → f.line ≤ l

abbrev pub FaultNamed : Type 0
FaultNamed = (t : Tables) → InEights t → (f : Fault) → (fault t ≡ Some f) ↔ Lowest t f
