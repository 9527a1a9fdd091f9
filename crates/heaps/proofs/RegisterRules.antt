-- A register may take a word that keeps the rules.
use Rattle.std.proofs.Common.{◌≡◌, ℕ, true, ◌∙◌}
use Rattle.std.proofs.lemmas.List.{length-set}
use Rattle.cells.specs.declared.cell.Cell.{Cell}
use Rattle.cells.specs.Cells.{in_range}
use Rattle.tables.specs.Tables.{Tables, used, set_register}
use Rattle.heaps.specs.Leads.{heap_of}
use Rattle.heaps.specs.Rules.{WordKeeps}
use Rattle.heaps.specs.LevelLaws.{Stands, Keeps}
use Rattle.heaps.proofs.EachLaws.{each_set}

pub stands_set_register : (t : Tables) (r : ℕ) (w : Cell) → Keeps t w → Stands t → Stands (set_register t r w)
stands_set_register t r w k s = (
  record {
    references = s.0.references;
    pointers = s.0.pointers;
    arguments = s.0.arguments;
    registers = (each_set (WordKeeps (heap_of t.heap) (used t)) t.registers r w k.0 s.0.registers.0, s.0.registers.1);
    trail = s.0.trail;
    tops = s.0.tops;
    acyclic = s.0.acyclic;
    levels = s.0.levels;
  },
  record {
    cells = s.1.cells;
    entries = s.1.entries;
    points = s.1.points;
    registers = length-set t.registers r w ∙ s.1.registers;
    saved = s.1.saved;
    heap_range = s.1.heap_range;
    register_range = each_set (λ c. in_range c ≡ true) t.registers r w k.1 s.1.register_range;
    saved_range = s.1.saved_range;
  },
)
