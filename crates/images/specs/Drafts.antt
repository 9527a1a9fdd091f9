-- What a draft holds while an image is read.
use Rattle.std.specs.Prelude.{◌≡◌, ℕ, ◌≤◌, Bool, true, cond, List, length, Some, None, Ok, Err, Option, Result, nat_le, slice_index}
use Rattle.cells.specs.Cells.{in_range}
use Rattle.tables.specs.Views.{tables_of}
use Rattle.lines.specs.declared.fault.LineFault.{LineFault}
use Rattle.lines.specs.declared.fault.LineFault.TheVariants as fault
use Rattle.images.specs.declared.draft.Draft.{Draft}
use Rattle.lines.specs.declared.item.Item.{Item}
use Rattle.lines.specs.declared.item.Item.TheVariants as item
use Rattle.lines.specs.Lines.{line_read}
use Rattle.images.specs.Text.{Listing}
use Rattle.images.specs.Reading.{follows, added, tables_from}

-- a draft holds the tables of what is listed so far, where each heap top has a choice point, and counts the places of three parts
pub record Holds (d : Draft) (l : Listing) : Type 0 where
  pub tables : tables_of d.memory ≡ tables_from l
  pub registers : d.registers ≡ length l.registers
  pub heap_tops_count : length (tables_of d.memory).choices ≡ length l.heap_tops
  pub trail_tops_count : d.trail_tops ≡ length l.trail_tops
  pub saved : d.saved ≡ length l.saved
  pub low : (i : ℕ) → slice_index l.heap_tops i ≤ 4096

-- the cell or the number of a line is in range
abbrev pub in_place : Item → Bool
in_place (item.Heap i c) = in_range c
in_place (item.Register i c) = in_range c
in_place (item.Trail i n) = nat_le n 4096
in_place (item.HeapTop i n) = nat_le n 4096
in_place (item.TrailTop i n) = nat_le n 4096
in_place (item.Saved i c) = in_range c

-- the line may come next
pub record Next (d : Draft) (x : Item) : Type 0 where
  pub listing : Listing
  pub holds : Holds d listing
  pub next : follows listing x ≡ true
  pub ranged : in_place x ≡ true

-- a draft after one more line
abbrev pub Adds : Draft → Draft → Item → Type 0
Adds d e x = (l : Listing) → Holds d l → follows l x ≡ true → Holds e (added l x)

-- what comes of the n-th line, where l is listed: it is read and follows, or the fault that reading names
pub record Taken (e : Draft) (l : Listing) (n : ℕ) (line : List ℕ) : Type 0 where
  pub item : Item
  pub read : line_read n line ≡ Ok item
  pub next : follows l item ≡ true
  pub holds : Holds e (added l item)

abbrev pub refused : ℕ → Listing → Result Item LineFault → Option LineFault
refused n l (Err f) = Some f
refused n l (Ok x) = cond (follows l x) None (Some (fault.BadLayout n))

abbrev pub Takes : Draft → Listing → ℕ → List ℕ → Result (Unit {0}) LineFault → Type 0
Takes e l n line (Ok _) = Taken e l n line
Takes e l n line (Err f) = refused n l (line_read n line) ≡ Some f
