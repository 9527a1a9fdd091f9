-- The numbers under which callers know the refusals.
use Rattle.std.specs.Prelude.{ℕ}
use Rattle.cells.specs.declared.refusal.Refusal.{Refusal}
use Rattle.cells.specs.declared.refusal.Refusal.TheVariants.{HalfMade, WrongSlip, NoRegister, OutOfRange, WrongCount, NoArgument, ChoicesFull, NoChoice, NoCells, BadShape, BadLayout, BrokenRule}

abbrev pub number_of : Refusal → ℕ
number_of HalfMade = 1
number_of WrongSlip = 2
number_of NoRegister = 3
number_of OutOfRange = 4
number_of WrongCount = 5
number_of NoArgument = 6
number_of ChoicesFull = 7
number_of NoChoice = 8
number_of NoCells = 9
number_of BadShape = 10
number_of BadLayout = 11
number_of BrokenRule = 12
