-- Pairs still to be unified that stand in the tables.
use Rattle.std.specs.Prelude.{ℕ, ◌+◌, ◌<◌}
use Rattle.cells.specs.declared.cell.Cell.TheVariants.{Reference}
use Rattle.tables.specs.Tables.{Tables}
use Rattle.heaps.specs.LevelLaws.{Keeps}
use Rattle.calls.specs.Unifying.{Pair, words, rows}

-- the words of a pair, or the references to the cells of its rows, may stand in registers
abbrev pub PairKeeps : Tables → Pair → Type 0
PairKeeps t (words a b) = Keeps t a × Keeps t b
PairKeeps t (rows i j k) = (m : ℕ) → m < k → Keeps t (Reference (i + m)) × Keeps t (Reference (j + m))
