use Rattle.std.proofs.Common.{ℕ, ◌<◌, get_or}
use Rattle.cells.specs.declared.cell.Cell.TheVariants.{Atom}
use Rattle.marking_tests.proofs.Insides.{Inside}
use Rattle.marking_tests.proofs.inside.words_inside.Given as goal

abbrev pub invariant-loop-word : goal.invariant-loop-word
invariant-loop-word l = (n : ℕ) → n < l.word-index → Inside 0 (get_or l.words n (Atom 0))
