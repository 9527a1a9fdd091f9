use Rattle.std.proofs.Common.{take, drop}
use Rattle.tables.specs.Views.{tables_of}
use Rattle.trails.specs.Named.{Names}
use Rattle.trails.proofs.levels.name_from.Given as goal

abbrev pub invariant-loop-j : goal.invariant-loop-j
invariant-loop-j g l = Names (g.M.Marks.has l.undone) (drop l.start (take l.j (tables_of l.memory).trail))
