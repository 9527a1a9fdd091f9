-- Each line puts what it says at its place in the tables.
use Rattle.std.proofs.Common.{◌≡◌, ℕ, zero, suc, ◌-◌, ◌*◌, ◌/◌, ◌%◌, ◌<◌, ◌≤◌, true, List, [], ◌∷◌, ◌++◌, reverse, length, get_or, drop, set, replicate, sym, ap, ◌∙◌, ap₂, arith}
use Rattle.std.proofs.lemmas.List.{nil_from_length, reverse-append, get_or-reverse, length-reverse, length-append, length-drop}
use Rattle.std.proofs.lemmas.Bool.{and_parts, eqb-true, ltb-true}
use Rattle.cells.specs.declared.cell.Cell.{Cell}
use Rattle.cells.specs.declared.cell.Cell.TheVariants.{Atom}
use Rattle.tables.specs.Tables.{Choice, Tables, no_choice, choice_at, set_choice, set_register, push_choice, with_choices, with_saved, with_tops}
use Rattle.tables.proofs.Views.{reverse_set}
use Rattle.lines.specs.declared.item.Item.TheVariants as item
use Rattle.images.specs.Text.{Listing}
use Rattle.images.specs.Reading.{follows, added, choices_from, registers_from, tables_from}
use Rattle.images.proofs.Listings.{over_push, length_choices_from, heap_top_at, choices_push, tops_push, saved_push}

-- what it says that a line is the next one

pub next_register : (l : Listing) (i : ℕ) (c : Cell) → follows l (item.Register i c) ≡ true → (i ≡ length l.registers) × (i < 8) × (l.heap_tops ≡ [])
next_register l i c h =
    let a = and_parts _ _ h in
    let b = and_parts _ _ a.1 in
    let d = and_parts _ _ (and_parts _ _ b.1).1 in
    (eqb-true _ _ a.0, ltb-true _ _ b.0, nil_from_length _ (eqb-true _ _ d.0))

pub next_heap_top : (l : Listing) (i n : ℕ) → follows l (item.HeapTop i n) ≡ true → (i ≡ length l.heap_tops) × (i < 64) × (l.trail_tops ≡ []) × (l.saved ≡ [])
next_heap_top l i n h =
    let a = and_parts _ _ h in
    let b = and_parts _ _ a.1 in
    let d = and_parts _ _ (and_parts _ _ b.1).1 in
    (eqb-true _ _ a.0, ltb-true _ _ b.0, nil_from_length _ (eqb-true _ _ d.0), nil_from_length _ (eqb-true _ _ d.1))

pub next_trail_top : (l : Listing) (i n : ℕ) → follows l (item.TrailTop i n) ≡ true → (i ≡ length l.trail_tops) × (i < length l.heap_tops)
next_trail_top l i n h =
    let a = and_parts _ _ h in
    (eqb-true _ _ a.0, ltb-true _ _ (and_parts _ _ a.1).0)

pub next_saved : (l : Listing) (i : ℕ) (c : Cell) → follows l (item.Saved i c) ≡ true
    → (i ≡ length l.saved) × (i < 8 * length l.heap_tops) × (length l.registers ≡ 8)
next_saved l i c h =
    let a = and_parts _ _ h in
    let b = and_parts _ _ a.1 in
    (eqb-true _ _ a.0, ltb-true _ _ b.0, eqb-true _ _ (and_parts _ _ b.1).0)

-- the choice points of a listing

abbrev oldest_first : Listing → List Choice
oldest_first l = choices_from (registers_from l.registers) l.heap_tops l.trail_tops l.saved

length_oldest : (l : Listing) → length (oldest_first l) ≡ length l.heap_tops
length_oldest l = length_choices_from (registers_from l.registers) l.heap_tops l.trail_tops l.saved

pub length_choices : (l : Listing) → length (tables_from l).choices ≡ length l.heap_tops
length_choices l = length-reverse (oldest_first l) ∙ length_oldest l

-- tables have a choice point for each heap top that is listed
pub choices_held : (t : Tables) (l : Listing) → t ≡ tables_from l → length t.choices ≡ length l.heap_tops
choices_held t l h = ap (λ (t : Tables). length t.choices) h ∙ length_choices l

-- a change of the p-th choice point from the oldest is one of the k-th from the newest
turned : (zs : List Choice) (f : Choice → Choice) (k p : ℕ) → p < length zs → k ≡ length zs - 1 - p
    → reverse (set zs p (f (get_or zs p no_choice))) ≡ set (reverse zs) k (f (get_or (reverse zs) k no_choice))
turned zs f k p low is =
    let same : p ≡ length zs - 1 - k = omega arith in
    let inside : k < length zs = omega arith in
    ap (λ q. reverse (set zs q (f (get_or zs q no_choice)))) same
    ∙ reverse_set zs k (f (get_or zs (length zs - 1 - k) no_choice)) inside
    ∙ ap (λ c. set (reverse zs) k (f c)) (sym (get_or-reverse zs k no_choice inside))

-- what a line does

module _ (l : Listing) where
  pub register_put : (i : ℕ) (c : Cell) → follows l (item.Register i c) ≡ true → set_register (tables_from l) i c ≡ tables_from (added l (item.Register i c))
  register_put i c h =
      let f = next_register l i c h in
      let under : List Cell → List Choice = λ below. choices_from below l.heap_tops l.trail_tops l.saved in
      let no : (below : List Cell) → under below ≡ [] = λ below. ap (λ hs. choices_from below hs l.trail_tops l.saved) f.2 in
      ap₂ (λ rs cs. record { heap = l.heap; registers = rs; trail = l.trail; choices = reverse cs })
      (ap (λ k. set (registers_from l.registers) k c) f.0 ∙ sym (over_push l.registers (replicate 8 (Atom 0)) c (omega (arith, f.0, f.1))))
      (no (registers_from l.registers) ∙ sym (no (registers_from (l.registers ++ (c ∷ [])))))

  pub heap_top_put : (i n : ℕ) → follows l (item.HeapTop i n) ≡ true
      → set_choice (push_choice (tables_from l)) 0 (with_tops (choice_at (push_choice (tables_from l)) 0) n 0) ≡ tables_from (added l (item.HeapTop i n))
  heap_top_put i n h =
      let f = next_heap_top l i n h in
      let below = registers_from l.registers in
      let new : Choice = record { saved = below; heap_top = n; trail_top = 0 } in
      ap (with_choices (tables_from l))
      (ap₂ (λ ts ss. new ∷ reverse (choices_from below l.heap_tops ts ss)) f.2 f.3
      ∙ sym (reverse-append (choices_from below l.heap_tops [] []) (new ∷ []))
      ∙ ap reverse (sym (choices_push below l.heap_tops n))
      ∙ sym (ap₂ (λ ts ss. reverse (choices_from below (l.heap_tops ++ (n ∷ [])) ts ss)) f.2 f.3))

  pub trail_top_put : (i n k : ℕ) → follows l (item.TrailTop i n) ≡ true → k ≡ length l.heap_tops - 1 - i
      → set_choice (tables_from l) k (with_tops (choice_at (tables_from l) k) (choice_at (tables_from l) k).heap_top n) ≡ tables_from (added l (item.TrailTop i n))
  trail_top_put i n k h is =
      let f = next_trail_top l i n h in
      let long = length_oldest l in
      ap (with_choices (tables_from l))
      (sym (ap reverse (tops_push (registers_from l.registers) l.heap_tops l.trail_tops l.saved n (omega (arith, f.0, f.1)))
      ∙ turned (oldest_first l) (λ c. with_tops c c.heap_top n) k (length l.trail_tops) (omega (arith, f.0, f.1, long)) (omega (arith, f.0, long, is))))

  pub saved_put : (i k : ℕ) (c : Cell) → follows l (item.Saved i c) ≡ true → k ≡ length l.heap_tops - 1 - i / 8
      → set_choice (tables_from l) k (with_saved (choice_at (tables_from l) k) (i % 8) c) ≡ tables_from (added l (item.Saved i c))
  saved_put i k c h is =
      let f = next_saved l i c h in
      let long = length_oldest l in
      let eight : length (registers_from l.registers) ≡ 8 =
      omega (arith, length-append l.registers (drop (length l.registers) (replicate 8 (Atom 0))), length-drop (length l.registers) (replicate 8 (Atom 0)), f.2) in
      ap (with_choices (tables_from l))
      (sym (ap reverse (saved_push (registers_from l.registers) eight (i / 8) (i % 8) l.heap_tops l.trail_tops l.saved c (omega (arith, f.0)) (omega arith) (omega (arith, f.1)))
      ∙ turned (oldest_first l) (λ d. with_saved d (i % 8) c) k (i / 8) (omega (arith, f.1, long)) (omega (arith, long, is))))

-- a choice point's heap top is one of those that are listed
pub heap_top_low : (l : Listing) (k : ℕ) → k < length l.heap_tops → ((i : ℕ) → get_or l.heap_tops i 0 ≤ 4096) → (choice_at (tables_from l) k).heap_top ≤ 4096
heap_top_low l k low each =
    let long = length_oldest l in
    let p = length (oldest_first l) - 1 - k in
    let same : (choice_at (tables_from l) k).heap_top ≡ get_or l.heap_tops p 0 =
    ap (λ (c : Choice). c.heap_top) (get_or-reverse (oldest_first l) k no_choice (omega arith))
    ∙ heap_top_at (registers_from l.registers) l.heap_tops l.trail_tops l.saved p in
    omega (arith, same, each p)

pub low_push : (hs : List ℕ) (h : ℕ) → h ≤ 4096 → ((i : ℕ) → get_or hs i 0 ≤ 4096) → (i : ℕ) → get_or (hs ++ (h ∷ [])) i 0 ≤ 4096
low_push [] h low each zero = low
low_push [] h low each (suc i) = omega arith
low_push (g ∷ hs) h low each zero = each 0
low_push (g ∷ hs) h low each (suc i) = low_push hs h low (λ j. each (suc j)) i
