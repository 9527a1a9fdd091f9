-- Reading an image: its lines in turn, each of which must be the next one of its part.
use Rattle.std.specs.Prelude.{ℕ, suc, ◌*◌, Bool, cond, ◌&&◌, List, [], ◌∷◌, ◌++◌, reverse, length, take, drop, replicate, Some, None, Ok, Err, Option, Result, ◌==◌, nat_lt, slice_index}
use Rattle.cells.specs.declared.cell.Cell.{Cell}
use Rattle.cells.specs.declared.cell.Cell.TheVariants.{Atom}
use Rattle.tables.specs.declared.memory.Memory.{Memory}
use Rattle.tables.specs.Tables.{Choice, Tables}
use Rattle.tables.specs.Views.{tables_of}
use Rattle.heaps.specs.declared.rule.Fault.{Fault}
use Rattle.heaps.specs.RuleTests.{fault}
use Rattle.lines.specs.declared.fault.LineFault.{LineFault}
use Rattle.images.specs.declared.fault.LoadFault.{LoadFault}
use Rattle.images.specs.declared.fault.LoadFault.TheVariants as load
use Rattle.lines.specs.declared.item.Item.{Item}
use Rattle.lines.specs.declared.item.Item.TheVariants as item
use Rattle.images.specs.Faults.{of_line, of_rule}
use Rattle.lines.specs.Lines.{none, split, line_read}
use Rattle.lines.specs.Heads.{head_read}
use Rattle.images.specs.Text.{Listing}

-- Which line may come next. A part begins when those before it are whole, and ends when a later one begins.

abbrev pub no_tops : Listing → Bool
no_tops l = none l.trail_tops && none l.saved

abbrev pub no_choices : Listing → Bool
no_choices l = none l.heap_tops && no_tops l

abbrev pub no_trail : Listing → Bool
no_trail l = none l.trail && no_choices l

abbrev pub no_registers : Listing → Bool
no_registers l = none l.registers && no_trail l

-- it has the next index of its part, the part has a place left, and no other part stands in the way
abbrev pub follows : Listing → Item → Bool
follows l (item.Heap i c) = i == length l.heap && (nat_lt i 4096 && no_registers l)
follows l (item.Register i c) = i == length l.registers && (nat_lt i 8 && no_trail l)
follows l (item.Trail i n) = i == length l.trail && (nat_lt i 4096 && (length l.registers == 8 && no_choices l))
follows l (item.HeapTop i n) = i == length l.heap_tops && (nat_lt i 64 && (length l.registers == 8 && no_tops l))
follows l (item.TrailTop i n) =
    (i == length l.trail_tops) && (nat_lt i (length l.heap_tops) && (length l.registers == 8 && none l.saved))
follows l (item.Saved i c) =
    (i == length l.saved)
    && (nat_lt i (8 * length l.heap_tops) && (length l.registers == 8 && length l.trail_tops == length l.heap_tops))

-- what is listed after one more line
abbrev pub added : Listing → Item → Listing
added l (item.Heap i c) = record { heap = l.heap ++ (c ∷ []); registers = l.registers; trail = l.trail; heap_tops = l.heap_tops; trail_tops = l.trail_tops; saved = l.saved }
added l (item.Register i c) = record { heap = l.heap; registers = l.registers ++ (c ∷ []); trail = l.trail; heap_tops = l.heap_tops; trail_tops = l.trail_tops; saved = l.saved }
added l (item.Trail i n) = record { heap = l.heap; registers = l.registers; trail = l.trail ++ (n ∷ []); heap_tops = l.heap_tops; trail_tops = l.trail_tops; saved = l.saved }
added l (item.HeapTop i n) = record { heap = l.heap; registers = l.registers; trail = l.trail; heap_tops = l.heap_tops ++ (n ∷ []); trail_tops = l.trail_tops; saved = l.saved }
added l (item.TrailTop i n) = record { heap = l.heap; registers = l.registers; trail = l.trail; heap_tops = l.heap_tops; trail_tops = l.trail_tops ++ (n ∷ []); saved = l.saved }
added l (item.Saved i c) = record { heap = l.heap; registers = l.registers; trail = l.trail; heap_tops = l.heap_tops; trail_tops = l.trail_tops; saved = l.saved ++ (c ∷ []) }

abbrev pub nothing : Listing
nothing = record { heap = []; registers = []; trail = []; heap_tops = []; trail_tops = []; saved = [] }

-- eight registers, and a trail top and eight saved registers for each heap top
abbrev pub whole : Listing → Bool
whole l =
    (length l.registers == 8)
    && (length l.trail_tops == length l.heap_tops && length l.saved == 8 * length l.heap_tops)

-- The tables of a listing. As long as it is not whole, a register that is not listed holds atom 0, a choice point's
-- saved register what the register holds, and a trail top is 0.

-- the first of the cells below are covered
abbrev pub over : List Cell → List Cell → List Cell
over cells below = cells ++ drop (length cells) below

abbrev pub choices_from : List Cell → List ℕ → List ℕ → List Cell → List Choice
choices_from below [] ts cells = []
choices_from below (h ∷ hs) ts cells =
    record { saved = over (take 8 cells) below; heap_top = h; trail_top = slice_index ts 0 } ∷ choices_from below hs (drop 1 ts) (drop 8 cells)

abbrev pub registers_from : List Cell → List Cell
registers_from cells = over cells (replicate 8 (Atom 0))

abbrev pub tables_from : Listing → Tables
tables_from l =
    record {
      heap = l.heap;
      registers = registers_from l.registers;
      trail = l.trail;
      choices = reverse (choices_from (registers_from l.registers) l.heap_tops l.trail_tops l.saved);
    }

-- The lines in turn.

-- a text that ends where line n would begin
abbrev pub at_end : Listing → ℕ → Result Tables LoadFault
at_end l n = cond (whole l) (Ok (tables_from l)) (Err (load.BadLayout n))

-- line n gives a place or a fault; reading goes on where the place is the next one
abbrev pub go_on : Listing → ℕ → Result Item LineFault → (Listing → Result Tables LoadFault) → Result Tables LoadFault
go_on l n (Err e) further = Err (of_line e)
go_on l n (Ok x) further = cond (follows l x) (further (added l x)) (Err (load.BadLayout n))

-- the last piece between the bytes 10 of a text must be empty, since a line ends with byte 10
abbrev pub by_last : {A : Type 0} → List (List ℕ) → A → A → A
by_last [] last more = last
by_last (piece ∷ pieces) last more = more

abbrev pub read_lines : Listing → ℕ → List (List ℕ) → Result Tables LoadFault
read_lines l n [] = Err (load.BadShape n)
read_lines l n (piece ∷ pieces) =
    by_last pieces (cond (none piece) (at_end l n) (Err (load.BadShape n))) (go_on l n (line_read n piece) (λ m. read_lines m (suc n) pieces))

abbrev pub after_head : Result (Unit {0}) LineFault → Result Tables LoadFault → Result Tables LoadFault
after_head (Err e) further = Err (of_line e)
after_head (Ok u) further = further

abbrev pub read_head : List (List ℕ) → Result Tables LoadFault
read_head [] = Err (load.BadShape 1)
read_head (piece ∷ pieces) = by_last pieces (Err (load.BadShape 1)) (after_head (head_read 1 piece) (read_lines nothing 2 pieces))

-- the layout
abbrev pub tables_in : List ℕ → Result Tables LoadFault
tables_in bytes = read_head (split 10 bytes)

-- the layout, and then the rules
abbrev pub fault_or : Tables → Option Fault → Result Tables LoadFault
fault_or t None = Ok t
fault_or t (Some f) = Err (of_rule f)

abbrev pub ruled : Result Tables LoadFault → Result Tables LoadFault
ruled (Err e) = Err e
ruled (Ok t) = fault_or t (fault t)

abbrev pub loaded : List ℕ → Result Tables LoadFault
loaded bytes = ruled (tables_in bytes)

-- the tables of a memory that was read, or the fault
abbrev pub viewed : Result Memory LoadFault → Result Tables LoadFault
viewed (Ok m) = Ok (tables_of m)
viewed (Err e) = Err e
