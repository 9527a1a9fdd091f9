-- The text of tables: a head line, and one line for each place.
use Rattle.std.specs.Prelude.{ℕ, suc, List, [], ◌∷◌, ◌++◌, map, reverse, codes, decimal}
use Rattle.std.specs.Fmt.{signed_decimal}
use Rattle.std.specs.List.{flat_map}
use Rattle.cells.specs.declared.cell.Cell.{Cell}
use Rattle.cells.specs.declared.cell.Cell.TheVariants.{Reference, Pointer, Functor, Atom, Integer}
use Rattle.cells.specs.Cells.{functor_value}
use Rattle.tables.specs.Tables.{Tables}
use Rattle.lines.specs.declared.word.Part.{Part}
use Rattle.lines.specs.declared.word.Part.TheVariants as part
use Rattle.lines.specs.declared.item.Item.{Item}
use Rattle.lines.specs.declared.item.Item.TheVariants as item
use Rattle.lines.specs.Heads.{head}
use Rattle.lines.specs.Words.{part_name}

-- The six parts of an image. Choice points come from the oldest on.
pub record Listing : Type 0 where
  pub heap : List Cell
  pub registers : List Cell
  pub trail : List ℕ
  pub heap_tops : List ℕ
  pub trail_tops : List ℕ
  pub saved : List Cell

abbrev pub listing_of : Tables → Listing
listing_of t =
    record {
      heap = t.heap;
      registers = t.registers;
      trail = t.trail;
      heap_tops = map (λ c. c.heap_top) (reverse t.choices);
      trail_tops = map (λ c. c.trail_top) (reverse t.choices);
      saved = flat_map (λ c. c.saved) (reverse t.choices);
    }

-- the places of a part are numbered
abbrev pub numbered : {A : Type 0} → (ℕ → A → Item) → ℕ → List A → List Item
numbered f i [] = []
numbered f i (x ∷ xs) = f i x ∷ numbered f (suc i) xs

abbrev pub items_of : Listing → List Item
items_of l =
    numbered item.Heap 0 l.heap
    ++ (numbered item.Register 0 l.registers
    ++ (numbered item.Trail 0 l.trail
    ++ (numbered item.HeapTop 0 l.heap_tops
    ++ (numbered item.TrailTop 0 l.trail_tops ++ numbered item.Saved 0 l.saved))))

-- the letter of a cell's kind, and its value
abbrev pub kind_text : Cell → List ℕ
kind_text (Reference n) = codes "r"
kind_text (Pointer n) = codes "s"
kind_text (Functor name arity) = codes "f"
kind_text (Atom n) = codes "a"
kind_text (Integer z) = codes "i"

abbrev pub value_text : Cell → List ℕ
value_text (Reference n) = decimal n
value_text (Pointer n) = decimal n
value_text (Functor name arity) = decimal (functor_value name arity)
value_text (Atom n) = decimal n
value_text (Integer z) = signed_decimal z

-- four words with one space between
abbrev pub line : List ℕ → List ℕ → List ℕ → List ℕ → List ℕ
line name index kind value = name ++ (32 ∷ (index ++ (32 ∷ (kind ++ (32 ∷ value)))))

abbrev pub cell_line : Part → ℕ → Cell → List ℕ
cell_line p i c = line (part_name p) (decimal i) (kind_text c) (value_text c)

abbrev pub number_line : Part → ℕ → ℕ → List ℕ
number_line p i n = line (part_name p) (decimal i) (codes "n") (decimal n)

abbrev pub line_of : Item → List ℕ
line_of (item.Heap i c) = cell_line part.Heap i c
line_of (item.Register i c) = cell_line part.Register i c
line_of (item.Trail i n) = number_line part.Trail i n
line_of (item.HeapTop i n) = number_line part.HeapTop i n
line_of (item.TrailTop i n) = number_line part.TrailTop i n
line_of (item.Saved i c) = cell_line part.Saved i c

-- byte 10 ends each line
abbrev pub ended : List ℕ → List ℕ
ended l = l ++ (10 ∷ [])

abbrev pub text_of : Tables → List ℕ
text_of t = ended head ++ flat_map (λ x. ended (line_of x)) (items_of (listing_of t))
