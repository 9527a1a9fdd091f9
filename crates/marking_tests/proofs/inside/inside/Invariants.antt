use Rattle.std.proofs.Common.{ℕ, ◌<◌}
use Rattle.tables.specs.Tables.{choice_at}
use Rattle.tables.specs.Views.{tables_of}
use Rattle.marking.specs.Marking.{WordsLead}
use Rattle.marking_tests.proofs.inside.inside.Given as goal

abbrev pub invariant-loop-k : goal.invariant-loop-k
invariant-loop-k l = (n : ℕ) → n < l.k → WordsLead (choice_at (tables_of l.memory) n).saved
