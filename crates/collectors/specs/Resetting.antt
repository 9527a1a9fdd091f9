-- Early reset. Cells are marked from the registers. Then, from the newest choice point to the oldest, the trail entries
-- of that choice point's stretch are looked at, from its trail top up to the stretch before: an entry whose cell is not
-- marked is taken off, its cell is made unbound, and trail tops fall to match. Then what that choice point's saved
-- registers reach is marked too. The entries before the oldest trail top come last.
use Rattle.std.specs.Prelude.{ℕ, ◌-◌, Bool, not, List, [], ◌∷◌, ◌++◌, length, take, drop}
use Rattle.cells.specs.declared.cell.Cell.{Cell}
use Rattle.tables.specs.Tables.{Choice, Tables, with_tops}
use Rattle.heaps.specs.Leads.{heap_of}
use Rattle.heaps.specs.Reached.{reached_by}
use Rattle.heaps.specs.Levels.{unbind_all}
use Rattle.collectors.specs.Placing.{kept}

-- what is left after some stretches: the heap, the entries that stay, and the choice points looked at, newest first
pub record Left : Type 0 where
  pub heap : List Cell
  pub trail : List ℕ
  pub choices : List Choice

-- whether the words reach a cell
abbrev pub marked : List Cell → List Cell → ℕ → Bool
marked cells words = reached_by (length cells) (heap_of cells) words

-- the entries from n up to m
abbrev pub stretch : ℕ → ℕ → List ℕ → List ℕ
stretch n m trail = take (m - n) (drop n trail)

-- the entries below m, with the cells that `words` reach marked
abbrev pub reset_below : List Choice → ℕ → List ℕ → List Cell → List Cell → Left
reset_below [] m trail cells words =
    let entries = stretch 0 m trail in
    record {
      heap = unbind_all cells (kept (λ e. not (marked cells words e)) entries);
      trail = kept (marked cells words) entries;
      choices = [];
    }
reset_below (c ∷ cs) m trail cells words =
    let entries = stretch c.trail_top m trail in
    let older = reset_below cs c.trail_top trail (unbind_all cells (kept (λ e. not (marked cells words e)) entries)) (words ++ c.saved) in
    record {
      heap = older.heap;
      trail = older.trail ++ kept (marked cells words) entries;
      choices = with_tops c c.heap_top (length older.trail) ∷ older.choices;
    }

abbrev pub reset : Tables → Tables
reset t =
    let left = reset_below t.choices (length t.trail) t.trail t.heap t.registers in
    record { heap = left.heap; registers = t.registers; trail = left.trail; choices = left.choices }
