-- What is proved of every call: statements, each of which stands in the contract of a public function.
use Rattle.std.specs.Prelude.{◌≡◌, ℕ, ◌+◌, ◌-◌, ◌<◌, Bool, true, false, List, [], ◌∷◌, length, Some, None}
use Rattle.cells.specs.declared.refusal.Refusal.{Refusal}
use Rattle.tables.specs.Tables.{Tables, set_up, push_choice}
use Rattle.heaps.specs.Lists.{Each}
use Rattle.heaps.specs.Levels.{last, undo}
use Rattle.heaps.specs.LevelLaws.{Stands, HasChoice}
use Rattle.calls.specs.declared.Call.{Call}
use Rattle.calls.specs.declared.Call.TheVariants.{Var, Atom as SetAtom, Int, Move, Look, Arg, Same, Unify, Open, Retry, Last, Cut, Start, Put, Hole, Done, Void, Collect, Usage}
use Rattle.calls.specs.declared.Answer.TheVariants.{Nothing, Refused}
use Rattle.calls.specs.Steps.{State, step}
use Rattle.calls.specs.Whole.{without, Whole}

-- Every call keeps the rules.

-- A store starts whole.
abbrev pub WholeStart : Type 0
WholeStart = Whole (record { tables = set_up; half = None })

-- The tables stand, also while a structure is half made.
abbrev pub WholeTables : Type 0
WholeTables = (s : State) → Whole s → Stands s.tables

-- Whatever the call, and whether it is accepted or refused, a whole state stays whole; of a collector it is asked that it leaves tables that stand.
abbrev pub StepKeeps : Type 0
StepKeeps = (c : Call) (left : Tables) (s : State) → Whole s → (c ≡ Collect → Stands left) → Whole (step c left s).1

-- Older levels.

-- the calls that leave the choice points' levels as they are
abbrev pub keeps_levels : Call → Bool
keeps_levels (Var d) = true
keeps_levels (SetAtom d n) = true
keeps_levels (Int d z) = true
keeps_levels (Move d s) = true
keeps_levels (Look s) = true
keeps_levels (Arg d s i) = true
keeps_levels (Same s t) = true
keeps_levels (Unify s t) = true
keeps_levels Open = false
keeps_levels Retry = true
keeps_levels Last = false
keeps_levels (Cut k) = false
keeps_levels (Start name arity) = true
keeps_levels (Put slip s) = true
keeps_levels (Hole slip) = true
keeps_levels (Done slip d) = true
keeps_levels (Void slip) = true
keeps_levels Collect = false
keeps_levels Usage = true

-- What going back to the newest choice point gives is the same before and after these calls, and so is what older ones give.
abbrev pub LevelsKept : Type 0
LevelsKept = (c : Call) (left : Tables) (s : State) → Whole s → keeps_levels c ≡ true → HasChoice s.tables → last (step c left s).1.tables ≡ last s.tables

-- A choice point that was opened gives back the tables as they were.
abbrev pub LevelOpened : Type 0
LevelOpened = (left : Tables) (s : State) → (step Open left s).0 ≡ Nothing → last (step Open left s).1.tables ≡ s.tables

-- Retry is going back and opening the choice point again; last is going back.
abbrev pub LevelRetried : Type 0
LevelRetried = (left : Tables) (s : State) → Whole s → (step Retry left s).0 ≡ Nothing → (step Retry left s).1.tables ≡ push_choice (last s.tables)

abbrev pub LevelLeft : Type 0
LevelLeft = (left : Tables) (s : State) → (step Last left s).0 ≡ Nothing → (step Last left s).1.tables ≡ last s.tables

-- With the k oldest choice points kept, each of them gives back what it gave before.
abbrev pub LevelsCut : Type 0
LevelsCut = (k j : ℕ) (left : Tables) (s : State) → Whole s → (step (Cut k) left s).0 ≡ Nothing → 0 < k → 0 < j
    → undo (step (Cut k) left s).1.tables j ≡ undo s.tables (length s.tables.choices - k + j)

-- Refusals.

-- A refused call leaves the state as it was.
abbrev pub RefusedUnchanged : Type 0
RefusedUnchanged = (c : Call) (left : Tables) (s : State) (why : Refusal) → (step c left s).0 ≡ Refused why → (step c left s).1 ≡ s

-- Giving up a half-made structure.

-- the tables without the structure that is half made, if there is one
abbrev pub settled : State → Tables
settled s = elim s.half [ None ↦ s.tables | Some h ↦ without s.tables h ]

-- the calls that begin, go on with and give up a structure
abbrev pub builds : Call → Bool
builds (Var d) = false
builds (SetAtom d n) = false
builds (Int d z) = false
builds (Move d s) = false
builds (Look s) = false
builds (Arg d s i) = false
builds (Same s t) = false
builds (Unify s t) = false
builds Open = false
builds Retry = false
builds Last = false
builds (Cut k) = false
builds (Start name arity) = true
builds (Put slip s) = true
builds (Hole slip) = true
builds (Done slip d) = false
builds (Void slip) = true
builds Collect = false
builds Usage = false

-- None of them changes anything but the structure.
abbrev pub SettledKept : Type 0
SettledKept = (c : Call) (left : Tables) (s : State) → Whole s → builds c ≡ true → settled (step c left s).1 ≡ settled s

-- the state after so many calls
abbrev pub step_all : List Call → Tables → State → State
step_all [] left s = s
step_all (c ∷ cs) left s = step_all cs left (step c left s).1

-- So a structure that is begun and given up leaves the tables as they were before.
abbrev pub VoidBack : Type 0
VoidBack = (cs : List Call) (left : Tables) (s : State) → Whole s → Each (λ c. builds c ≡ true) cs → s.half ≡ None → (step_all cs left s).half ≡ None
    → (step_all cs left s).tables ≡ s.tables
