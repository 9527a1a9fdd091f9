-- The cells that a walk has visited, in the order of their first visits.
use Rattle.std.specs.Prelude.{ℕ, zero, suc, cond, List, [], ◌∷◌, ◌++◌}
use Rattle.tables.specs.Stacks.{listed}
use Rattle.heaps.specs.Lists.{is_in}
use Rattle.occurring.specs.declared.visits.VisitTable.{VisitTable}

abbrev pub visited : VisitTable → List ℕ
visited v = listed v.cells

-- a cell that was visited before is not listed again
abbrev pub with_visit : List ℕ → ℕ → List ℕ
with_visit vs n = cond (is_in n vs) vs (vs ++ (n ∷ []))

-- with m neighbouring cells visited, from n on
abbrev pub visit_all : List ℕ → ℕ → ℕ → List ℕ
visit_all vs n zero = vs
visit_all vs n (suc m) = visit_all (with_visit vs n) (suc n) m
