use Rattle.tables.specs.Tables.{used}
use Rattle.tables.specs.Views.{tables_of}
use Rattle.heaps.specs.Leads.{heap_of}
use Rattle.heaps.specs.RuleTests.{lacks_argument}
use Rattle.checking.proofs.cell_rules.first_lacking_functor.Given as goal

abbrev pub ghost-cell_line : goal.ghost-cell_line
ghost-cell_line a = λ i. lacks_argument (heap_of (tables_of a.memory.now).heap) (used (tables_of a.memory.now)) i (heap_of (tables_of a.memory.now).heap i)
