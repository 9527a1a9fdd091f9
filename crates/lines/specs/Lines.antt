-- The lines of an image, their words, and the place of the tables that a line fills.
use Rattle.std.specs.Prelude.{ℕ, ◌/◌, ◌%◌, Bool, true, cond, ◌&&◌, List, [], ◌∷◌, length, ℤ, Some, None, Ok, Err, Option, Result, ◌==◌, nat_le}
use Rattle.std.specs.List.{slice_split}
use Rattle.std.specs.Option.{option_map}
use Rattle.cells.specs.declared.cell.Cell.{Cell}
use Rattle.cells.specs.declared.cell.Cell.TheVariants.{Reference, Pointer, Functor, Atom, Integer}
use Rattle.cells.specs.Cells.{in_range}
use Rattle.lines.specs.declared.fault.LineFault.{LineFault}
use Rattle.lines.specs.declared.fault.LineFault.TheVariants as fault
use Rattle.lines.specs.declared.word.Kind.{Kind}
use Rattle.lines.specs.declared.word.Kind.TheVariants as kind
use Rattle.lines.specs.declared.word.Part.{Part}
use Rattle.lines.specs.declared.word.Part.TheVariants as part
use Rattle.lines.specs.declared.item.Item.{Item}
use Rattle.lines.specs.declared.item.Item.TheVariants as item
use Rattle.lines.specs.Words.{word_shaped, part_named, letter, natural64, integer64}

abbrev pub none : {A : Type 0} → List A → Bool
none xs = length xs == 0

-- the pieces between the bytes b; there is one more of them than bytes b
abbrev pub split : ℕ → List ℕ → List (List ℕ)
split b xs = slice_split (λ c. c == b) xs

-- the words of a line stand between its single spaces
abbrev pub words_of : List ℕ → List (List ℕ)
words_of line = split 32 line

abbrev pub all_shaped : List (List ℕ) → Bool
all_shaped [] = true
all_shaped (w ∷ ws) = word_shaped w && all_shaped ws

-- a line has four words of one to ten bytes each
abbrev pub shaped : List (List ℕ) → Bool
shaped ws = length ws == 4 && all_shaped ws

-- a cell of a kind that has one, by its value as a natural number and as an integer
abbrev pub cell_by : Kind → Option ℕ → Option ℤ → Option Cell
cell_by kind.Reference n z = option_map Reference n
cell_by kind.Pointer n z = option_map Pointer n
cell_by kind.Functor n z = option_map (λ v. Functor (v / 64) (v % 64)) n
cell_by kind.Atom n z = option_map Atom n
cell_by kind.Integer n z = option_map Integer z
cell_by kind.Number n z = None

abbrev pub ranged : Option Cell → Option Cell
ranged None = None
ranged (Some c) = cond (in_range c) (Some c) None

abbrev pub cell_in : Option Kind → Option ℕ → Option ℤ → Option Cell
cell_in None n z = None
cell_in (Some k) n z = ranged (cell_by k n z)

-- the parts without cells hold numbers up to 4,096, with letter n
abbrev pub limited : Option ℕ → Option ℕ
limited None = None
limited (Some n) = cond (nat_le n 4096) (Some n) None

abbrev pub number_by : Kind → Option ℕ → Option ℕ
number_by kind.Reference n = None
number_by kind.Pointer n = None
number_by kind.Functor n = None
number_by kind.Atom n = None
number_by kind.Integer n = None
number_by kind.Number n = limited n

abbrev pub number_in : Option Kind → Option ℕ → Option ℕ
number_in None n = None
number_in (Some k) n = number_by k n

abbrev pub both : {A B C : Type 0} → (A → B → C) → Option A → Option B → Option C
both f None y = None
both f (Some x) None = None
both f (Some x) (Some y) = Some (f x y)

abbrev pub item_by : Part → Option ℕ → Option Kind → Option ℕ → Option ℤ → Option Item
item_by part.Heap i k n z = both item.Heap i (cell_in k n z)
item_by part.Register i k n z = both item.Register i (cell_in k n z)
item_by part.Trail i k n z = both item.Trail i (number_in k n)
item_by part.HeapTop i k n z = both item.HeapTop i (number_in k n)
item_by part.TrailTop i k n z = both item.TrailTop i (number_in k n)
item_by part.Saved i k n z = both item.Saved i (cell_in k n z)

abbrev pub item_in : Option Part → Option ℕ → Option Kind → Option ℕ → Option ℤ → Option Item
item_in None i k n z = None
item_in (Some p) i k n z = item_by p i k n z

-- what four words say: part, index, kind and value
abbrev pub item_of : List (List ℕ) → Option Item
item_of [] = None
item_of (p ∷ []) = None
item_of (p ∷ i ∷ []) = None
item_of (p ∷ i ∷ k ∷ []) = None
item_of (p ∷ i ∷ k ∷ v ∷ []) = item_in (part_named p) (natural64 i) (letter k) (natural64 v) (integer64 v)
item_of (p ∷ i ∷ k ∷ v ∷ w ∷ ws) = None

abbrev pub or_bad_line : {A : Type 0} → ℕ → Option A → Result A LineFault
or_bad_line n None = Err (fault.BadLayout n)
or_bad_line n (Some x) = Ok x

-- the n-th line: a fault of its shape comes before a fault of what it says
abbrev pub line_read : ℕ → List ℕ → Result Item LineFault
line_read n line = cond (shaped (words_of line)) (or_bad_line n (item_of (words_of line))) (Err (fault.BadShape n))
