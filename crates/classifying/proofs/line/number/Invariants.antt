use Rattle.std.proofs.Common.{◌≡◌, ◌≤◌, length}
use Rattle.classifying.specs.Lines.{digits_on}
use Rattle.classifying.proofs.line.number.Given as goal

abbrev pub invariant-loop-rest : goal.invariant-loop-rest
invariant-loop-rest l = (digits_on 0 l.text ≡ digits_on l.n l.rest) × (l.n ≤ 9999)

abbrev pub decreases-loop-rest : goal.decreases-loop-rest
decreases-loop-rest l = length l.rest
