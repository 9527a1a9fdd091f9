-- What is proved of images.
use Rattle.std.specs.Prelude.{◌≡◌, ℕ, ◌^◌, ◌<◌, true, ◌↔◌, List, Ok}
use Rattle.lines.specs.declared.item.Item.{Item}
use Rattle.lines.specs.declared.item.Item.TheVariants as item
use Rattle.lines.specs.Lines.{line_read}
use Rattle.tables.specs.Tables.{Tables}
use Rattle.heaps.specs.Rules.{Rules, Fits}
use Rattle.images.specs.Text.{line_of, text_of}
use Rattle.images.specs.Reading.{tables_in, loaded}
use Rattle.images.specs.Drafts.{in_place}

abbrev pub index_of : Item → ℕ
index_of (item.Heap i c) = i
index_of (item.Register i c) = i
index_of (item.Trail i n) = i
index_of (item.HeapTop i n) = i
index_of (item.TrailTop i n) = i
index_of (item.Saved i c) = i

-- A line is read as a place exactly where it is the text of that place, with a cell or a number in range.
abbrev pub LineIsText : Type 0
LineIsText = (n : ℕ) (line : List ℕ) (x : Item) → index_of x < 10 ^ 10 → (line_read n line ≡ Ok x) ↔ ((line ≡ line_of x) × (in_place x ≡ true))

-- What is read is the text of the tables that it is read as.
abbrev pub ReadText : Type 0
ReadText = (bytes : List ℕ) (t : Tables) → tables_in bytes ≡ Ok t → bytes ≡ text_of t

-- The text of tables that keep the rules and fit the memory is loaded as those tables.
abbrev pub LoadedText : Type 0
LoadedText = (t : Tables) → Rules t → Fits t → loaded (text_of t) ≡ Ok t

-- Bytes are loaded as tables exactly where they are the text of those tables, which keep the rules and fit the memory.
abbrev pub LoadedIsText : Type 0
LoadedIsText = (bytes : List ℕ) (t : Tables) → (loaded bytes ≡ Ok t) ↔ ((bytes ≡ text_of t) × Rules t × Fits t)

-- Such tables have different texts.
abbrev pub TextOne : Type 0
TextOne = (t u : Tables) → Rules t → Fits t → Rules u → Fits u → text_of t ≡ text_of u → t ≡ u
