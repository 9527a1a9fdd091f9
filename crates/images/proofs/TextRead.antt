-- Texts of tables are read as those tables, and what is read is a text of tables.
use Rattle.std.proofs.Common.{◌≡◌, ℕ, ◌*◌, Bool, true, false, cond, ◌&&◌, eqb, List, [], ◌∷◌, ◌++◌, length, Ok, Err, Result, sym, refl, ap, ◌∙◌, ap₂, arith}
use Rattle.std.proofs.lemmas.Bool.{and_parts, eqb-true}
use Rattle.std.specs.Str.{bytes_eq}
use Rattle.std.proofs.lemmas.Slice.Eq.{bytes_eq-Decides}
use Rattle.tables.specs.Tables.{Tables}
use Rattle.heaps.specs.Lists.{Each}
use Rattle.lines.specs.declared.fault.LineFault.{LineFault}
use Rattle.lines.specs.declared.fault.LineFault.TheVariants as fault
use Rattle.lines.specs.Lines.{split, words_of, shaped}
use Rattle.lines.specs.Heads.{head, head_read}
use Rattle.images.specs.Text.{Listing, listing_of, items_of, text_of}
use Rattle.images.specs.Reading.{nothing, whole, tables_from, after_head, read_lines, read_head, tables_in}
use Rattle.std.specs.List.{join_with_byte}
use Rattle.std.proofs.lemmas.List.Splits.{join_with_byte-slice_split}
use Rattle.images.proofs.Pieces.{split_joined}
use Rattle.images.proofs.ImageReading.{head_first}
use Rattle.images.proofs.Accepted.{Placed, accepts_items}
use Rattle.images.proofs.Listed.{items_accepted}
use Rattle.images.proofs.TextsBack.{Written, text_lines, lines_read, lines_consist, joined_lines}
use Rattle.images.proofs.TablesBack.{listing_back}

abbrev pub text_from : Listing → List ℕ
text_from m = head ++ (10 ∷ text_lines (items_of m))

pub text_read : (m : Listing) → Placed m → Each Written (items_of m) → whole m ≡ true → tables_in (text_from m) ≡ Ok (tables_from m)
text_read m placed each w =
    head_first (text_from m) head (text_lines (items_of m)) (split_joined 10 head (text_lines (items_of m)) refl)
    ∙ lines_read (items_of m) nothing m 2 (accepts_items m placed) each w

same_head : (piece : List ℕ) → head_read 1 piece ≡ Ok tt → piece ≡ head
same_head piece e = test tt (shaped (words_of piece)) (bytes_eq piece head) refl e
  where
    test : (u : Unit {0}) (a b : Bool) → bytes_eq piece head ≡ b → cond a (cond b (Ok u) (Err (fault.BadLayout 1))) (Err (fault.BadShape 1)) ≡ Ok u → piece ≡ head
    test u true true is e = (bytes_eq-Decides piece head).0 is
    test u true false is e = absurd (let z : ◌≡◌ {A = ℕ} 0 1 = cc in omega arith)
    test u false b is e = absurd (let z : ◌≡◌ {A = ℕ} 0 1 = cc in omega arith)

-- a whole listing is that of its tables
whole_listing : (m : Listing) (t : Tables) → whole m ≡ true → tables_from m ≡ t → listing_of t ≡ m
whole_listing m t w is =
    let a = and_parts (eqb (length m.registers) 8) (eqb (length m.trail_tops) (length m.heap_tops) && eqb (length m.saved) (8 * length m.heap_tops)) w in
    let b = and_parts (eqb (length m.trail_tops) (length m.heap_tops)) (eqb (length m.saved) (8 * length m.heap_tops)) a.1 in
    ap listing_of (sym is) ∙ listing_back m (eqb-true _ 8 a.0) (eqb-true _ _ b.0) (eqb-true _ _ b.1)

pub read_text : (bytes : List ℕ) (t : Tables) → tables_in bytes ≡ Ok t → bytes ≡ text_of t
read_text bytes t e = by (split 10 bytes) refl e
  where
    text : (piece p : List ℕ) (ps : List (List ℕ)) → split 10 bytes ≡ piece ∷ p ∷ ps → piece ≡ head → read_lines nothing 2 (p ∷ ps) ≡ Ok t → bytes ≡ text_of t
    text piece p ps is first e =
        let c = lines_consist (p ∷ ps) nothing 2 t e in
        let items : c.items ≡ items_of (listing_of t) =
        items_accepted nothing c.listing c.items c.accepted ∙ ap items_of (sym (whole_listing c.listing t c.all c.tables)) in
        sym (join_with_byte-slice_split 10 bytes) ∙ ap (join_with_byte 10) is
        ∙ ap₂ (λ h ys. h ++ (10 ∷ ys)) first (ap (join_with_byte 10) c.lines ∙ joined_lines c.items ∙ ap text_lines items)

    after : (piece p : List ℕ) (ps : List (List ℕ)) → split 10 bytes ≡ piece ∷ p ∷ ps → (r : Result (Unit {0}) LineFault) → head_read 1 piece ≡ r
        → after_head r (read_lines nothing 2 (p ∷ ps)) ≡ Ok t → bytes ≡ text_of t
    after piece p ps is (Err f) head-is e = absurd (let z : ◌≡◌ {A = ℕ} 0 1 = cc in omega arith)
    after piece p ps is (Ok u) head-is e = text piece p ps is (same_head piece head-is) e

    by : (pieces : List (List ℕ)) → split 10 bytes ≡ pieces → read_head pieces ≡ Ok t → bytes ≡ text_of t
    by [] is e = absurd (let z : ◌≡◌ {A = ℕ} 0 1 = cc in omega arith)
    by (piece ∷ []) is e = absurd (let z : ◌≡◌ {A = ℕ} 0 1 = cc in omega arith)
    by (piece ∷ p ∷ ps) is e = after piece p ps is (head_read 1 piece) refl e
