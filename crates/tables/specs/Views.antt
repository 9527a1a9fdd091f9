-- What the fixed memory stands for.
use Rattle.std.specs.Prelude.{map, reverse}
use Rattle.cells.specs.Cells.{cell_of}
use Rattle.tables.specs.declared.memory.ChoicePoint.{ChoicePoint}
use Rattle.tables.specs.declared.memory.Memory.{Memory}
use Rattle.tables.specs.Stacks.{listed}
use Rattle.tables.specs.Tables.{Choice, Tables}

abbrev pub choice_of : ChoicePoint → Choice
choice_of p = record { saved = map cell_of p.saved; heap_top = p.heap_top; trail_top = p.trail_top }

-- the newest choice point stands last in memory and first in the list
abbrev pub tables_of : Memory → Tables
tables_of m =
    record {
      heap = map cell_of (listed m.heap);
      registers = map cell_of m.registers;
      trail = listed m.trail;
      choices = reverse (map choice_of (listed m.choices));
    }
