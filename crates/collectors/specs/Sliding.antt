-- The sliding collector keeps the order of cells; a heap top becomes the number of kept cells below it.
use Rattle.std.specs.Prelude.{ℕ, List}
use Rattle.marks.specs.Sets.{count_below}
use Rattle.tables.specs.Tables.{Tables, used}
use Rattle.heaps.specs.Reached.{is_reached}
use Rattle.collectors.specs.Placing.{numbers, kept, placed}

abbrev pub slide_order : Tables → List ℕ
slide_order t = kept (is_reached t) (numbers 0 (used t))

abbrev pub slid : Tables → Tables
slid t = placed (slide_order t) (count_below (is_reached t)) t
