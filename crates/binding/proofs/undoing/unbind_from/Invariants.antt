use Rattle.std.proofs.Common.{◌≡◌}
use Rattle.tables.specs.Views.{tables_of}
use Rattle.binding.proofs.UnbindSteps.{undone_to}
use Rattle.binding.proofs.undoing.unbind_from.Given as goal

abbrev pub invariant-loop-i : goal.invariant-loop-i
invariant-loop-i l = tables_of l.memory ≡ undone_to (tables_of l.initial.memory) l.initial.i l.i
