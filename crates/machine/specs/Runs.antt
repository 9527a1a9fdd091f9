-- The law over runs: whatever list of calls is run, with whichever lawful collectors, every answer, slip and refusal is
-- the tree machine's; and after each collection the used cells are the count that its collector's meaning gives.
use Rattle.std.specs.Prelude.{◌≡◌, Bool, true, false, cond, List, [], ◌∷◌, None}
use Rattle.cells.specs.declared.refusal.Refusal.TheVariants.{HalfMade, WrongSlip, NoRegister, OutOfRange, WrongCount, NoArgument, ChoicesFull, NoChoice, NoCells, BadShape, BadLayout, BrokenRule}
use Rattle.tables.specs.Tables.{Tables, used, set_up}
use Rattle.heaps.specs.Rules.{Rules, Fits}
use Rattle.collectors.specs.Collectors.{Meaning, Shows}
use Rattle.calls.specs.declared.Call.{Call}
use Rattle.calls.specs.declared.Call.TheVariants.{Var, Atom as SetAtom, Int, Move, Look, Arg, Same, Unify, Open, Retry, Last, Cut, Start, Put, Hole, Done, Void, Collect, Usage}
use Rattle.calls.specs.declared.Answer.{Answer}
use Rattle.calls.specs.declared.Answer.TheVariants.{Nothing, Refused, Sees, Tells, Hands, Counts}
use Rattle.calls.specs.Steps as Store
use Rattle.calls.specs.Steps.{State}
use Rattle.machine.specs.Machine as Tree
use Rattle.machine.specs.Machine.{Machine}

-- a call, and for a collect the meaning of the collector that it is given and the tables that this collector leaves
pub record Event : Type 0 where
  pub call : Call
  pub meaning : Meaning
  pub left : Tables

abbrev pub is_collect : Call → Bool
is_collect (Var d) = false
is_collect (SetAtom d n) = false
is_collect (Int d z) = false
is_collect (Move d s) = false
is_collect (Look s) = false
is_collect (Arg d s i) = false
is_collect (Same s t) = false
is_collect (Unify s t) = false
is_collect Open = false
is_collect Retry = false
is_collect Last = false
is_collect (Cut k) = false
is_collect (Start name arity) = false
is_collect (Put slip s) = false
is_collect (Hole slip) = false
is_collect (Done slip d) = false
is_collect (Void slip) = false
is_collect Collect = true
is_collect Usage = false

abbrev pub answer : Event → State → Answer
answer e s = (Store.step e.call e.left s).0

abbrev pub next : Event → State → State
next e s = (Store.step e.call e.left s).1

-- each collect that is carried out is given a collector that shows what one must
abbrev pub Lawful : State → List Event → Type 0
Lawful s [] = Unit {0}
Lawful s (e ∷ es) =
    (is_collect e.call ≡ true → Store.refusal_of e.call s ≡ None → Shows (e.meaning.count s.tables) s.tables e.left)
    × Lawful (next e s) es

-- a refusal for want of cells
abbrev pub is_want : Answer → Bool
is_want Nothing = false
is_want (Refused HalfMade) = false
is_want (Refused WrongSlip) = false
is_want (Refused NoRegister) = false
is_want (Refused OutOfRange) = false
is_want (Refused WrongCount) = false
is_want (Refused NoArgument) = false
is_want (Refused ChoicesFull) = false
is_want (Refused NoChoice) = false
is_want (Refused NoCells) = true
is_want (Refused BadShape) = false
is_want (Refused BadLayout) = false
is_want (Refused BrokenRule) = false
is_want (Sees x) = false
is_want (Tells v) = false
is_want (Hands d) = false
is_want (Counts u) = false

-- what usage answers is not compared
abbrev pub Compared : Answer → Answer → Type 0
Compared (Counts u) b = Unit {0}
Compared Nothing b = Nothing ≡ b
Compared (Refused why) b = Refused why ≡ b
Compared (Sees x) b = Sees x ≡ b
Compared (Tells v) b = Tells v ≡ b
Compared (Hands d) b = Hands d ≡ b

-- The machine is fed the calls, and told which the store refused for want of cells; those it passes over.
abbrev pub Agree : State → Machine → List Event → Type 0
Agree s m [] = Unit {0}
Agree s m (e ∷ es) =
    cond (is_want (answer e s))
    (Agree (next e s) m es)
    (Compared (answer e s) (Tree.step e.call m).0 × Agree (next e s) (Tree.step e.call m).1 es)

abbrev pub begin : Tables → State
begin t = record { tables = t; half = None }

-- from any tables that keep the rules, as a loaded image gives them
abbrev pub RunsAgree : Type 0
RunsAgree = (t : Tables) → Rules t → Fits t → (es : List Event) → Lawful (begin t) es → Agree (begin t) (Tree.loaded t) es

-- set-up is such a start, and gives the machine's own set-up
abbrev pub SetUpLoaded : Type 0
SetUpLoaded = Tree.loaded set_up ≡ Tree.set_up_machine

-- After each collection that is carried out, the used cells are the count that its collector's meaning gives for the tables before.
abbrev pub Counted : State → List Event → Type 0
Counted s [] = Unit {0}
Counted s (e ∷ es) =
    (is_collect e.call ≡ true → Store.refusal_of e.call s ≡ None → used (next e s).tables ≡ e.meaning.count s.tables)
    × Counted (next e s) es

abbrev pub RunsCounted : Type 0
RunsCounted = (t : Tables) → Rules t → Fits t → (es : List Event) → Lawful (begin t) es → Counted (begin t) es
