use Rattle.std.proofs.Common.{◌≡◌, ◌⊎◌}
use Rattle.tables.specs.Views.{tables_of}
use Rattle.heaps.specs.Leads.{heap_of, Way}
use Rattle.cycles.proofs.certificate.comes_round.Given as goal

abbrev pub invariant-loop-turn : goal.invariant-loop-turn
invariant-loop-turn l = (l.at ≡ l.cell) ⊎ Way (heap_of (tables_of l.memory).heap) l.at l.cell
