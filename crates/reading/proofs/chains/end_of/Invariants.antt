use mathlib.Core.Path.{◌≡◌}
use Rattle.tables.specs.Views.{tables_of}
use Rattle.heaps.specs.Ends.{end, steps_to_end}
use Rattle.heaps.specs.LevelLaws.{Keeps}
use Rattle.reading.proofs.chains.end_of.Given as goal

abbrev pub invariant-loop-at : goal.invariant-loop-at
invariant-loop-at l = (end (tables_of l.memory) l.at ≡ end (tables_of l.memory) l.initial.at) × Keeps (tables_of l.memory) l.at

abbrev pub decreases-loop-at : goal.decreases-loop-at
decreases-loop-at l = steps_to_end (tables_of l.memory) l.at
