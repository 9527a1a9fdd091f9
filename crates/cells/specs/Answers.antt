-- The numbers of the cases of answers, and the value that goes with each.
use Rattle.std.specs.Prelude.{ℕ, Bool, true, false, ℤ, pos}
use Rattle.cells.specs.declared.answer.Seen.{Seen}
use Rattle.cells.specs.declared.answer.Seen.TheVariants.{Variable, Atom, Integer, Structure}
use Rattle.cells.specs.declared.answer.Verdict.{Verdict}
use Rattle.cells.specs.declared.answer.Verdict.TheVariants.{No, Yes}

abbrev pub case_of : Seen → ℕ
case_of Variable = 0
case_of (Atom n) = 1
case_of (Integer z) = 2
case_of (Structure v) = 3

abbrev pub value_of : Seen → ℤ
value_of Variable = pos 0
value_of (Atom n) = pos n
value_of (Integer z) = z
value_of (Structure v) = pos v

-- whether two terms are the same, or have a unifier, as a verdict
abbrev pub verdict : Bool → Verdict
verdict true = Yes
verdict false = No

abbrev pub verdict_number : Verdict → ℕ
verdict_number No = 0
verdict_number Yes = 1
