-- One step of comparing with merges: two words are compared, and what is still to be compared becomes other pairs.
use Rattle.std.specs.Prelude.{Bool, false, List}
use Rattle.cells.specs.declared.cell.Cell.{Cell}
use Rattle.tables.specs.Tables.{Tables}
use Rattle.calls.specs.Unifying.{Pair}
use Rattle.classes.specs.Merges.{Merge}
use Rattle.unifying.specs.Merging.{SameRun}
use Rattle.unifying.specs.Walking.{Advanced, Underway as WalkUnderway}

-- From merges and pairs to later ones.
abbrev pub Compared : Tables → Cell → Cell → List Merge → List Pair → List Merge → List Pair → Bool → Type 0
Compared t a b merges ps later qs same = Advanced Bool SameRun false t t a b merges ps later qs same

-- A comparison under way: a run from the merges and pairs of now is one from those of the beginning.
abbrev pub Underway : Tables → List Merge → List Pair → List Merge → List Pair → Type 0
Underway t first start merges ps = WalkUnderway Bool SameRun t first start t merges ps
