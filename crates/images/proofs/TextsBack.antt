-- A text is read as the listing whose lines it has.
use Rattle.std.proofs.Common.{◌≡◌, ℕ, suc, ◌^◌, ◌<◌, Bool, true, false, cond, List, [], ◌∷◌, ◌++◌, map, length, Ok, Err, Result, sym, refl, ap, ◌∙◌, ap₂, arith}
use Rattle.std.specs.List.{flat_map}
use Rattle.std.proofs.lemmas.List.{append_assoc, nil_from_length}
use Rattle.std.proofs.lemmas.Bool.{cond-true, eqb-true}
use Rattle.tables.specs.Tables.{Tables}
use Rattle.heaps.specs.Lists.{Each}
use Rattle.lines.specs.declared.fault.LineFault.{LineFault}
use Rattle.images.specs.declared.fault.LoadFault.TheVariants as load
use Rattle.lines.specs.declared.item.Item.{Item}
use Rattle.lines.specs.Lines.{none, split, line_read}
use Rattle.images.specs.Text.{Listing, line_of, ended}
use Rattle.images.specs.Reading.{follows, added, whole, tables_from, at_end, go_on, read_lines}
use Rattle.images.specs.Drafts.{in_place}
use Rattle.images.specs.ImageLaws.{index_of}
use Rattle.std.specs.List.{join_with_byte}
use Rattle.images.proofs.Pieces.{split_joined}
use Rattle.images.proofs.InPlace.{read_in_place}
use Rattle.images.proofs.ImageReading.{line_first}
use Rattle.images.proofs.LinesBack.{line_read_lem, line_text, line_lacks}
use Rattle.images.proofs.Accepted.{Accepts}

-- a line that can be written and read
abbrev pub Written : Item → Type 0
Written x = (in_place x ≡ true) × (index_of x < 10 ^ 10)

abbrev pub text_lines : List Item → List ℕ
text_lines xs = flat_map (λ x. ended (line_of x)) xs

-- the lines of a text are read one after another
pub lines_read : (xs : List Item) (l m : Listing) (n : ℕ) → Accepts l xs m → Each Written xs → whole m ≡ true
    → read_lines l n (split 10 (text_lines xs)) ≡ Ok (tables_from m)
lines_read [] l m n h each w = cond-true _ _ _ (ap whole h ∙ w) ∙ ap (λ k. Ok (tables_from k)) h
lines_read (x ∷ xs) l m n h each w =
    let rest = text_lines xs in
    let first : split 10 (text_lines (x ∷ xs)) ≡ line_of x ∷ split 10 rest =
    ap (split 10) (append_assoc (line_of x) (10 ∷ []) rest) ∙ split_joined 10 (line_of x) rest (line_lacks x each.0.0 each.0.1) in
    line_first (text_lines (x ∷ xs)) (line_of x) rest first l n
    ∙ ap (λ r. go_on l n r (λ k. read_lines k (suc n) (split 10 rest))) (line_read_lem n x each.0.0 each.0.1)
    ∙ cond-true _ _ _ h.0
    ∙ lines_read xs (added l x) m (suc n) h.1 each.1 w

-- what a text that is read consists of
pub record Consists (l : Listing) (pieces : List (List ℕ)) (t : Tables) : Type 0 where
  pub items : List Item
  pub listing : Listing
  pub accepted : Accepts l items listing
  pub lines : pieces ≡ map line_of items ++ ([] ∷ [])
  pub placed : Each (λ x. in_place x ≡ true) items
  pub all : whole listing ≡ true
  pub tables : tables_from listing ≡ t

ends : (l : Listing) (n : ℕ) (piece : List ℕ) (t : Tables) → cond (none piece) (at_end l n) (Err (load.BadShape n)) ≡ Ok t → Consists l (piece ∷ []) t
ends l n piece t e = test (none piece) refl (whole l) refl e
  where
    test : (a : Bool) → none piece ≡ a → (b : Bool) → whole l ≡ b → cond a (cond b (Ok (tables_from l)) (Err (load.BadLayout n))) (Err (load.BadShape n)) ≡ Ok t → Consists l (piece ∷ []) t
    test true empty true w e =
        record {
          items = [];
          listing = l;
          accepted = refl;
          lines = ap (λ p. p ∷ []) (nil_from_length piece (eqb-true (length piece) 0 empty));
          placed = tt;
          all = w;
          tables = cc;
        }
    test true empty false w e = absurd (let z : ◌≡◌ {A = ℕ} 0 1 = cc in omega arith)
    test false empty b w e = absurd (let z : ◌≡◌ {A = ℕ} 0 1 = cc in omega arith)

goes_on : (l : Listing) (n : ℕ) (piece : List ℕ) (pieces : List (List ℕ)) (t : Tables)
    → ((k : Listing) → read_lines k (suc n) pieces ≡ Ok t → Consists k pieces t)
    → go_on l n (line_read n piece) (λ k. read_lines k (suc n) pieces) ≡ Ok t → Consists l (piece ∷ pieces) t
goes_on l n piece pieces t again e = by (line_read n piece) refl e
  where
    test : (x : Item) → line_read n piece ≡ Ok x → (b : Bool) → follows l x ≡ b
        → cond b (read_lines (added l x) (suc n) pieces) (Err (load.BadLayout n)) ≡ Ok t → Consists l (piece ∷ pieces) t
    test x is true next e =
        let c = again (added l x) e in
        record {
          items = x ∷ c.items;
          listing = c.listing;
          accepted = (next, c.accepted);
          lines = ap₂ (λ p ps. p ∷ ps) (line_text n piece x is) c.lines;
          placed = (read_in_place n piece x is, c.placed);
          all = c.all;
          tables = c.tables;
        }
    test x is false next e = absurd (let z : ◌≡◌ {A = ℕ} 0 1 = cc in omega arith)

    by : (r : Result Item LineFault) → line_read n piece ≡ r → go_on l n r (λ k. read_lines k (suc n) pieces) ≡ Ok t → Consists l (piece ∷ pieces) t
    by (Err f) is e = absurd (let z : ◌≡◌ {A = ℕ} 0 1 = cc in omega arith)
    by (Ok x) is e = test x is (follows l x) refl e

pub lines_consist : (pieces : List (List ℕ)) (l : Listing) (n : ℕ) (t : Tables) → read_lines l n pieces ≡ Ok t → Consists l pieces t
lines_consist [] l n t e = absurd (let z : ◌≡◌ {A = ℕ} 0 1 = cc in omega arith)
lines_consist (piece ∷ []) l n t e = ends l n piece t e
lines_consist (piece ∷ p ∷ ps) l n t e = goes_on l n piece (p ∷ ps) t (λ k. lines_consist (p ∷ ps) k (suc n) t) e

-- the bytes of lines
pub joined_lines : (xs : List Item) → join_with_byte 10 (map line_of xs ++ ([] ∷ [])) ≡ text_lines xs
joined_lines [] = refl
joined_lines (x ∷ xs) = step (map line_of xs ++ ([] ∷ [])) (some xs) (joined_lines xs)
  where
    some : (ys : List Item) → 0 < length (map line_of ys ++ ([] ∷ []))
    some [] = omega arith
    some (y ∷ ys) = omega arith

    step : (ps : List (List ℕ)) → 0 < length ps → join_with_byte 10 ps ≡ text_lines xs → join_with_byte 10 (line_of x ∷ ps) ≡ text_lines (x ∷ xs)
    step [] h e = absurd (let no_one : 0 < 0 = h in omega arith)
    step (p ∷ ps) h e = ap (λ ys. line_of x ++ (10 ∷ ys)) e ∙ sym (append_assoc (line_of x) (10 ∷ []) (text_lines xs))
