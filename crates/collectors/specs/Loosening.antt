-- Tables with some trail entries taken off: the cell of such an entry is made unbound, and trail tops fall to match.
use Rattle.std.specs.Prelude.{◌≡◌, ℕ, Bool, true, cond, not, ◌&&◌, map, length, take}
use Rattle.cells.specs.declared.cell.Cell.TheVariants.{Reference}
use Rattle.tables.specs.Tables.{Choice, Tables, used, with_tops}
use Rattle.heaps.specs.Lists.{Each, is_in}
use Rattle.heaps.specs.Leads.{heap_of}
use Rattle.heaps.specs.Levels.{seen_from}
use Rattle.heaps.specs.Reached.{Reaches}
use Rattle.collectors.specs.Placing.{kept}

abbrev pub loose_choice : (ℕ → Bool) → Tables → Choice → Choice
loose_choice stays t c = with_tops c c.heap_top (length (kept stays (take c.trail_top t.trail)))

-- u is t without the entries that do not stay.
pub record Loosens (stays : ℕ → Bool) (t u : Tables) : Type 0 where
  pub cells : used u ≡ used t
  pub heap : (i : ℕ) → heap_of u.heap i ≡ cond (is_in i t.trail && not (stays i)) (Reference i) (heap_of t.heap i)
  pub registers : u.registers ≡ t.registers
  pub trail : u.trail ≡ kept stays t.trail
  pub choices : u.choices ≡ map (loose_choice stays t) t.choices

-- No level loses a binding that it sees: an entry stays if its cell is reached now, or as a newer choice point sees the heap.
pub record Unseen (stays : ℕ → Bool) (t : Tables) : Type 0 where
  pub present : (i : ℕ) → Reaches (heap_of t.heap) t.registers i → is_in i t.trail ≡ true → stays i ≡ true
  pub older : Each (λ c. (i : ℕ) → Reaches (heap_of (seen_from c t.heap t.trail)) c.saved i → is_in i (take c.trail_top t.trail) ≡ true → stays i ≡ true) t.choices
