-- The worked examples, as one list of equations on the definitions.
use Rattle.std.specs.Prelude.{◌≡◌, ℕ, List, [], ◌∷◌, replicate, pos, negsuc, Ok, Err, None}
use Rattle.cells.specs.declared.cell.Cell.TheVariants.{Functor, Atom, Integer}
use Rattle.cells.specs.declared.refusal.Refusal.TheVariants.{WrongSlip, NoRegister, OutOfRange, WrongCount, NoCells}
use Rattle.cells.specs.declared.answer.Verdict.TheVariants.{No}
use Rattle.cells.specs.Cells.{encoded}
use Rattle.tables.specs.Tables.{Tables, used, set_up}
use Rattle.heaps.specs.Levels.{retry}
use Rattle.collectors.specs.Copying.{copied}
use Rattle.collectors.specs.Sliding.{slid}
use Rattle.collectors.specs.Resetting.{reset}
use Rattle.collectors.specs.Shortening.{shorten}
use Rattle.calls.specs.declared.Draft.{Draft}
use Rattle.calls.specs.declared.Call.{Call}
use Rattle.calls.specs.declared.Call.TheVariants.{Var, Atom as SetAtom, Int, Arg, Unify, Open, Start, Put, Hole, Done, Void}
use Rattle.calls.specs.declared.Answer.{Answer}
use Rattle.calls.specs.declared.Answer.TheVariants.{Refused, Tells, Hands}
use Rattle.calls.specs.Steps.{State, step}

-- the state after a list of calls with no collection among them
abbrev pub after : List Call → State → State
after [] s = s
after (c ∷ cs) s = after cs (step c s.tables s).1

abbrev pub from_set_up : List Call → State
from_set_up cs = after cs (record { tables = set_up; half = None })

abbrev pub answer_to : Call → State → Answer
answer_to c s = (step c s.tables s).0

abbrev pub slip : ℕ → ℕ → ℕ → Draft
slip name arity missing = record { name = name; arity = arity; missing = missing }

-- X0 is f(_), and X1 its argument
abbrev pub argument_taken : State
argument_taken = from_set_up (Start 7 1 ∷ Hole (slip 7 1 1) ∷ Done (slip 7 1 0) 0 ∷ Arg 1 0 1 ∷ [])

-- one argument of 7/2 is written, and one is missing
abbrev pub half_made : State
half_made = from_set_up (Start 7 2 ∷ Hole (slip 7 2 2) ∷ [])

-- so many cells in use
abbrev pub holding : ℕ → State
holding n = record { tables = record { heap = replicate n (Atom 0); registers = replicate 8 (Atom 0); trail = []; choices = [] }; half = None }

-- two variables unified, then bound to 4, without a choice point
abbrev pub two_variables : Tables
two_variables = (from_set_up (Var 0 ∷ Var 1 ∷ Unify 0 1 ∷ Int 2 (pos 4) ∷ Unify 0 2 ∷ [])).tables

-- a binding under a choice point that only the choice point can still see
abbrev pub under_choice : Tables
under_choice =
    (from_set_up
    (Start 7 2 ∷ Hole (slip 7 2 2) ∷ Put (slip 7 2 1) 1 ∷ Done (slip 7 2 0) 0 ∷ Arg 1 0 1 ∷ Open
    ∷ Start 8 1 ∷ Put (slip 8 1 1) 3 ∷ Done (slip 8 1 0) 2 ∷ Unify 1 2 ∷ SetAtom 0 0 ∷ SetAtom 1 0 ∷ SetAtom 2 0 ∷ [])
    ).tables

pub record Worked : Type 0 where
  pub minus_one : encoded (Integer (negsuc 0)) ≡ Ok 4294967292
  pub lowest : encoded (Integer (negsuc 268435455)) ≡ Ok 2147483652
  pub too_high : encoded (Integer (pos 268435456)) ≡ Err OutOfRange
  pub functor_word : encoded (Functor 7 2) ≡ Ok 3602
  pub own_argument : answer_to (Unify 0 1) argument_taken ≡ Tells No
  pub arity_1_fits : answer_to (Start 7 1) (holding 4094) ≡ Hands (slip 7 1 1)
  pub arity_2_does_not : answer_to (Start 7 2) (holding 4094) ≡ Refused NoCells
  pub arity_32 : answer_to (Start 7 32) (holding 0) ≡ Hands (slip 7 32 32)
  pub arity_0 : answer_to (Start 7 0) (holding 0) ≡ Refused OutOfRange
  pub slid_two : used (slid two_variables) ≡ 2
  pub slid_short : used (slid (shorten two_variables)) ≡ 0
  pub copied_five : used (copied under_choice) ≡ 5
  pub copied_reset : used (copied (reset under_choice)) ≡ 3
  pub retry_copied : used (retry (copied under_choice)) ≡ 5
  pub retry_slid : used (retry (slid under_choice)) ≡ 3

-- The order of refusals for slips.
pub record WorkedSlips : Type 0 where
  pub other_slip : answer_to (Put (slip 8 2 1) 0) half_made ≡ Refused WrongSlip
  pub older_slip : answer_to (Hole (slip 7 2 2)) half_made ≡ Refused WrongSlip
  pub no_structure : answer_to (Void (slip 7 2 2)) (holding 0) ≡ Refused WrongSlip
  pub slip_before_register : answer_to (Put (slip 8 2 1) 8) half_made ≡ Refused WrongSlip
  pub register_before_count : answer_to (Done (slip 7 2 1) 8) half_made ≡ Refused NoRegister
  pub done_too_early : answer_to (Done (slip 7 2 1) 7) half_made ≡ Refused WrongCount
