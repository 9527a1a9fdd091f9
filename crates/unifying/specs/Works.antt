-- The work space of a walk.
use Rattle.std.specs.Prelude.{◌≡◌, ℕ, List, []}
use Rattle.tables.specs.Stacks.{listed}
use Rattle.calls.specs.Unifying.{Pair}
use Rattle.classes.specs.Merges.{Merge}
use Rattle.classes.specs.Classes.{merges}
use Rattle.unifying.specs.Frames.{pairs}
use Rattle.unifying.specs.declared.work.Work.{Work}

abbrev pub merges_in : Work → List Merge
merges_in w = merges w.classes

abbrev pub pairs_in : Work → List Pair
pairs_in w = pairs w.frames

-- the cells bound so far, from the first to the last
abbrev pub bound_in : Work → List ℕ
bound_in w = listed w.bound

-- nothing is merged, nothing is to be done, nothing is bound
pub record Idle (w : Work) : Type 0 where
  pub unmerged : merges_in w ≡ []
  pub done : pairs_in w ≡ []
  pub unbound : bound_in w ≡ []
