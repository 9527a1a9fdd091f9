-- A line is read as a place exactly where it is the text of that place.
use Rattle.std.proofs.Common.{◌≡◌, ℕ, ◌^◌, ◌<◌, true, leb, List, [], ◌∷◌, ℤ, Some, None, Ok, codes, decimal, Option, sym, refl, ap, ◌∙◌, ap₂, arith}
use Rattle.std.proofs.lemmas.Bool.{cond-true, leb-true}
use Rattle.cells.specs.declared.cell.Cell.{Cell}
use Rattle.cells.specs.Cells.{in_range}
use Rattle.lines.specs.declared.word.Kind.{Kind}
use Rattle.lines.specs.declared.word.Part.{Part}
use Rattle.lines.specs.declared.word.Part.TheVariants as part
use Rattle.lines.specs.declared.item.Item.{Item}
use Rattle.lines.specs.declared.item.Item.TheVariants as item
use Rattle.lines.specs.Words.{part_name, part_named, letter, natural64, integer64}
use Rattle.lines.specs.Lines.{words_of, shaped, cell_in, number_in, both, item_by, item_in, item_of, or_bad_line, line_read}
use Rattle.images.specs.Text.{kind_text, value_text, cell_line, number_line, line_of}
use Rattle.images.specs.Drafts.{in_place}
use Rattle.images.specs.ImageLaws.{index_of, LineIsText}
use Rattle.lines.proofs.Options.{not_some}
use Rattle.lines.proofs.PartNames.{part_named_lem, part_name_lem}
use Rattle.images.proofs.InPlace.{both_parts, read_parts, read_in_place}
use Rattle.images.proofs.Pieces.{Word, four, words_four, four_lacks, shaped_four, line_four, lacks}
use Rattle.images.proofs.NumbersBack.{natural64_decimal, decimal_natural64, word_decimal}
use Rattle.images.proofs.CellsBack.{kind_word, value_word, cell_read, cell_back, number_read, number_back}

pub part_word : (p : Part) → Word (part_name p)
part_word part.Heap = record { shape = refl; high = refl }
part_word part.Register = record { shape = refl; high = refl }
part_word part.Trail = record { shape = refl; high = refl }
part_word part.HeapTop = record { shape = refl; high = refl }
part_word part.TrailTop = record { shape = refl; high = refl }
part_word part.Saved = record { shape = refl; high = refl }

number_word : Word (codes "n")
number_word = record { shape = refl; high = refl }

-- from the place to its line and back

four_read : (n : ℕ) (p i k v : List ℕ) (x : Item) → Word p → Word i → Word k → Word v
    → item_in (part_named p) (natural64 i) (letter k) (natural64 v) (integer64 v) ≡ Some x → line_read n (four p i k v) ≡ Ok x
four_read n p i k v x wp wi wk wv e =
    let words = words_four p i k v wp wi wk wv in
    cond-true _ _ _ (ap shaped words ∙ shaped_four p i k v wp wi wk wv) ∙ ap (or_bad_line n) (ap item_of words ∙ e)

module _ (n : ℕ) (p : Part) (i : ℕ) (low : i < 10 ^ 10) where
  index_read : natural64 (decimal i) ≡ Some i
  index_read = natural64_decimal i (omega arith)

  cell_line_lem : (f : ℕ → Cell → Item) → ((j : Option ℕ) (k : Option Kind) (m : Option ℕ) (z : Option ℤ) → item_by p j k m z ≡ both f j (cell_in k m z))
      → (c : Cell) → in_range c ≡ true → line_read n (cell_line p i c) ≡ Ok (f i c)
  cell_line_lem f is c h =
      four_read n (part_name p) (decimal i) (kind_text c) (value_text c) (f i c) (part_word p) (word_decimal i low) (kind_word c) (value_word c h)
      (ap (λ o. item_in o (natural64 (decimal i)) (letter (kind_text c)) (natural64 (value_text c)) (integer64 (value_text c))) (part_named_lem p)
      ∙ is (natural64 (decimal i)) (letter (kind_text c)) (natural64 (value_text c)) (integer64 (value_text c))
      ∙ ap₂ (both f) index_read (cell_read c h))

  number_line_lem : (f : ℕ → ℕ → Item) → ((j : Option ℕ) (k : Option Kind) (m : Option ℕ) (z : Option ℤ) → item_by p j k m z ≡ both f j (number_in k m))
      → (m : ℕ) → leb m 4096 ≡ true → line_read n (number_line p i m) ≡ Ok (f i m)
  number_line_lem f is m h =
      four_read n (part_name p) (decimal i) (codes "n") (decimal m) (f i m) (part_word p) (word_decimal i low) number_word (word_decimal m (omega (arith, leb-true m 4096 h)))
      (ap (λ o. item_in o (natural64 (decimal i)) (letter (codes "n")) (natural64 (decimal m)) (integer64 (decimal m))) (part_named_lem p)
      ∙ is (natural64 (decimal i)) (letter (codes "n")) (natural64 (decimal m)) (integer64 (decimal m))
      ∙ ap₂ (both f) index_read (number_read m h))

pub line_read_lem : (n : ℕ) (x : Item) → in_place x ≡ true → index_of x < 10 ^ 10 → line_read n (line_of x) ≡ Ok x
line_read_lem n (item.Heap i c) h low = cell_line_lem n part.Heap i low item.Heap (λ j k m z. refl) c h
line_read_lem n (item.Register i c) h low = cell_line_lem n part.Register i low item.Register (λ j k m z. refl) c h
line_read_lem n (item.Trail i m) h low = number_line_lem n part.Trail i low item.Trail (λ j k m z. refl) m h
line_read_lem n (item.HeapTop i m) h low = number_line_lem n part.HeapTop i low item.HeapTop (λ j k m z. refl) m h
line_read_lem n (item.TrailTop i m) h low = number_line_lem n part.TrailTop i low item.TrailTop (λ j k m z. refl) m h
line_read_lem n (item.Saved i c) h low = cell_line_lem n part.Saved i low item.Saved (λ j k m z. refl) c h

cell_lacks : (p : Part) (i : ℕ) (c : Cell) → i < 10 ^ 10 → in_range c ≡ true → lacks 10 (cell_line p i c) ≡ true
cell_lacks p i c low h = four_lacks (part_name p) (decimal i) (kind_text c) (value_text c) (part_word p) (word_decimal i low) (kind_word c) (value_word c h)

number_lacks : (p : Part) (i m : ℕ) → i < 10 ^ 10 → leb m 4096 ≡ true → lacks 10 (number_line p i m) ≡ true
number_lacks p i m low h =
    four_lacks (part_name p) (decimal i) (codes "n") (decimal m) (part_word p) (word_decimal i low) number_word (word_decimal m (omega (arith, leb-true m 4096 h)))

pub line_lacks : (x : Item) → in_place x ≡ true → index_of x < 10 ^ 10 → lacks 10 (line_of x) ≡ true
line_lacks (item.Heap i c) h low = cell_lacks part.Heap i c low h
line_lacks (item.Register i c) h low = cell_lacks part.Register i c low h
line_lacks (item.Trail i m) h low = number_lacks part.Trail i m low h
line_lacks (item.HeapTop i m) h low = number_lacks part.HeapTop i m low h
line_lacks (item.TrailTop i m) h low = number_lacks part.TrailTop i m low h
line_lacks (item.Saved i c) h low = cell_lacks part.Saved i c low h

-- from the line to the place that it is read as and back

module _ (p i k v : List ℕ) (q : Part) (named : p ≡ part_name q) (x : Item) where
  cell_text : (f : ℕ → Cell → Item) → ((j : ℕ) (c : Cell) → line_of (f j c) ≡ cell_line q j c)
      → both f (natural64 i) (cell_in (letter k) (natural64 v) (integer64 v)) ≡ Some x → four p i k v ≡ line_of x
  cell_text f is e =
      let b = both_parts f (natural64 i) (cell_in (letter k) (natural64 v) (integer64 v)) x e in
      let w = cell_back v k b.1 b.3 in
      ap₂ (λ a d. four a d k v) named (decimal_natural64 i b.0 b.2).0
      ∙ ap₂ (four (part_name q) (decimal b.0)) w.0 w.1 ∙ sym (is b.0 b.1) ∙ ap line_of b.4

  number_text : (f : ℕ → ℕ → Item) → ((j m : ℕ) → line_of (f j m) ≡ number_line q j m) → both f (natural64 i) (number_in (letter k) (natural64 v)) ≡ Some x → four p i k v ≡ line_of x
  number_text f is e =
      let b = both_parts f (natural64 i) (number_in (letter k) (natural64 v)) x e in
      let w = number_back v k b.1 b.3 in
      ap₂ (λ a d. four a d k v) named (decimal_natural64 i b.0 b.2).0
      ∙ ap₂ (four (part_name q) (decimal b.0)) w.0 w.1 ∙ sym (is b.0 b.1) ∙ ap line_of b.4

item_text : (p i k v : List ℕ) → (q : Part) → p ≡ part_name q → (x : Item)
    → item_by q (natural64 i) (letter k) (natural64 v) (integer64 v) ≡ Some x → four p i k v ≡ line_of x
item_text p i k v part.Heap is x e = cell_text p i k v part.Heap is x item.Heap (λ j c. refl) e
item_text p i k v part.Register is x e = cell_text p i k v part.Register is x item.Register (λ j c. refl) e
item_text p i k v part.Trail is x e = number_text p i k v part.Trail is x item.Trail (λ j m. refl) e
item_text p i k v part.HeapTop is x e = number_text p i k v part.HeapTop is x item.HeapTop (λ j m. refl) e
item_text p i k v part.TrailTop is x e = number_text p i k v part.TrailTop is x item.TrailTop (λ j m. refl) e
item_text p i k v part.Saved is x e = cell_text p i k v part.Saved is x item.Saved (λ j c. refl) e

pub line_text : (n : ℕ) (line : List ℕ) (x : Item) → line_read n line ≡ Ok x → line ≡ line_of x
line_text n line x e = let r = read_parts n line x e in by (words_of line) refl r.0 r.1
  where
    part_of : (p i k v : List ℕ) → (o : Option Part) → part_named p ≡ o
        → item_in o (natural64 i) (letter k) (natural64 v) (integer64 v) ≡ Some x → four p i k v ≡ line_of x
    part_of p i k v None is e = absurd (not_some e)
    part_of p i k v (Some q) is e = item_text p i k v q (part_name_lem p q is) x e

    by : (ws : List (List ℕ)) → words_of line ≡ ws → shaped ws ≡ true → item_of ws ≡ Some x → line ≡ line_of x
    by [] is s e = absurd (not_some e)
    by (p ∷ []) is s e = absurd (not_some e)
    by (p ∷ i ∷ []) is s e = absurd (not_some e)
    by (p ∷ i ∷ k ∷ []) is s e = absurd (not_some e)
    by (p ∷ i ∷ k ∷ v ∷ []) is s e =
        line_four p i k v line is ∙ part_of p i k v (part_named p) refl e
    by (p ∷ i ∷ k ∷ v ∷ w ∷ ws) is s e = absurd (not_some e)

pub line_is_text : LineIsText
line_is_text n line x low =
    (λ e. (line_text n line x e, read_in_place n line x e), λ h. ap (line_read n) h.0 ∙ line_read_lem n x h.1 low)
