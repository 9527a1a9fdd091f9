use Rattle.tables.specs.Tables.{used}
use Rattle.tables.specs.Views.{tables_of}
use Rattle.heaps.specs.Leads.{heap_of}
use Rattle.heaps.specs.RuleTests.{stray_reference}
use Rattle.checking.proofs.cell_rules.first_stray_reference.Given as goal

abbrev pub ghost-cell_line : goal.ghost-cell_line
ghost-cell_line a = λ i. stray_reference (heap_of (tables_of a.memory.now).heap) (used (tables_of a.memory.now)) (heap_of (tables_of a.memory.now).heap i)
