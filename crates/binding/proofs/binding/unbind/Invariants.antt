use Rattle.std.proofs.Common.{◌≡◌, ◌<◌, reverse, length}
use Rattle.tables.specs.Stacks.{listed}
use Rattle.tables.specs.Tables.{used, with_heap}
use Rattle.tables.specs.Views.{tables_of}
use Rattle.heaps.specs.Lists.{Each}
use Rattle.heaps.specs.Levels.{unbind_all}
use Rattle.binding.proofs.binding.unbind.Given as goal

-- the cells that are still listed are to be made unbound
abbrev pub invariant-loop-at : goal.invariant-loop-at
invariant-loop-at l =
    (with_heap (tables_of l.memory) (unbind_all (tables_of l.memory).heap (reverse (listed l.bound)))
    ≡ with_heap (tables_of l.initial.memory) (unbind_all (tables_of l.initial.memory).heap (reverse (listed l.initial.bound))))
    × (used (tables_of l.memory) ≡ used (tables_of l.initial.memory))
    × Each (λ c. c < used (tables_of l.initial.memory)) (listed l.bound)

abbrev pub decreases-loop-at : goal.decreases-loop-at
decreases-loop-at l = length (listed l.bound)
