-- What unifying two words leaves.
use Rattle.std.specs.Prelude.{◌≡◌, Bool, false, cond, Option, Some, None}
use Rattle.cells.specs.declared.cell.Cell.{Cell}
use Rattle.tables.specs.Tables.{Tables}
use Rattle.calls.specs.Unifying.{unify_words}

-- the result of a walk that left the tables u
abbrev pub outcome : Bool → Tables → Option Tables
outcome b u = cond b (Some u) None

-- From the tables t unifying two words left the tables u: the answer and the tables are those of `unify_words`, and after a no
-- the tables are as they were.
pub record Unified (t : Tables) (a b : Cell) (u : Tables) (answer : Bool) : Type 0 where
  pub result : unify_words t a b ≡ outcome answer u
  pub undone : answer ≡ false → u ≡ t
