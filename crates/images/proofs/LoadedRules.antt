-- Tables that are loaded keep the rules and fit the memory.
use Rattle.std.proofs.Common.{◌≡◌, ℕ, suc, ◌*◌, ◌<◌, ◌≤◌, Bool, true, ◌&&◌, eqb, ltb, List, [], ◌∷◌, ◌++◌, length, take, drop, Some, None, Ok, Err, Option, Result, sym, refl, ap, ◌∙◌, subst, arith}
use Rattle.std.proofs.lemmas.List.{length_push, length-take, length-drop}
use Rattle.std.proofs.lemmas.Bool.{and_parts, eqb-true, ltb-true}
use Rattle.cells.specs.declared.cell.Cell.{Cell}
use Rattle.cells.specs.Cells.{in_range}
use Rattle.tables.specs.Tables.{Choice, Tables}
use Rattle.heaps.specs.declared.rule.Fault.{Fault}
use Rattle.heaps.specs.Lists.{Each}
use Rattle.heaps.specs.Rules.{Fits}
use Rattle.heaps.specs.RuleTests.{fault}
use Rattle.heaps.proofs.EachLaws.{each_take, each_drop}
use Rattle.heaps.proofs.RuleTestsFault.{fault_none}
use Rattle.lines.specs.declared.fault.LineFault.{LineFault}
use Rattle.images.specs.declared.fault.LoadFault.{LoadFault}
use Rattle.lines.specs.declared.item.Item.{Item}
use Rattle.lines.specs.declared.item.Item.TheVariants as item
use Rattle.lines.specs.Lines.{split}
use Rattle.lines.specs.Heads.{head_read}
use Rattle.images.specs.Text.{Listing, numbered, items_of}
use Rattle.images.specs.Reading.{nothing, follows, added, whole, choices_from, registers_from, tables_from, after_head, read_lines, read_head, tables_in, fault_or, ruled, loaded}
use Rattle.images.specs.Drafts.{in_place}
use Rattle.images.specs.ImageLaws.{LoadedIsText}
use Rattle.images.proofs.Accepted.{Accepts}
use Rattle.images.proofs.Fillings.{length_choices}
use Rattle.images.proofs.Listed.{items_accepted}
use Rattle.images.proofs.LoadedTexts.{loaded_text}
use Rattle.images.proofs.TablesBack.{over_all, registers_all, each_reverse}
use Rattle.images.proofs.TextRead.{read_text}
use Rattle.images.proofs.TextsBack.{Consists, lines_consist}

-- no part has more lines than there are places
record Bounded (l : Listing) : Type 0 where
  heap : length l.heap ≤ 4096
  trail : length l.trail ≤ 4096
  tops : length l.heap_tops ≤ 64

place : (i n limit : ℕ) (rest : Bool) → (eqb i n && (ltb i limit && rest)) ≡ true → n < limit
place i n limit rest h =
    let a = and_parts (eqb i n) (ltb i limit && rest) h in
    omega (arith, eqb-true i n a.0, ltb-true i limit (and_parts (ltb i limit) rest a.1).0)

bounded_added : (l : Listing) (x : Item) → Bounded l → follows l x ≡ true → Bounded (added l x)
bounded_added l (item.Heap i c) b h = record { heap = omega (arith, length_push l.heap c, place i (length l.heap) 4096 _ h); trail = b.trail; tops = b.tops }
bounded_added l (item.Register i c) b h = record { heap = b.heap; trail = b.trail; tops = b.tops }
bounded_added l (item.Trail i n) b h = record { heap = b.heap; trail = omega (arith, length_push l.trail n, place i (length l.trail) 4096 _ h); tops = b.tops }
bounded_added l (item.HeapTop i n) b h = record { heap = b.heap; trail = b.trail; tops = omega (arith, length_push l.heap_tops n, place i (length l.heap_tops) 64 _ h) }
bounded_added l (item.TrailTop i n) b h = record { heap = b.heap; trail = b.trail; tops = b.tops }
bounded_added l (item.Saved i c) b h = record { heap = b.heap; trail = b.trail; tops = b.tops }

bounded : (xs : List Item) (l m : Listing) → Bounded l → Accepts l xs m → Bounded m
bounded [] l m b h = subst Bounded h b
bounded (x ∷ xs) l m b h = bounded xs (added l x) m (bounded_added l x b h.0) h.1

-- what the lines say is in range

abbrev InPlace : Item → Type 0
InPlace x = in_place x ≡ true

each_parts : {A : Type 0} (P : A → Type 0) (xs ys : List A) → Each P (xs ++ ys) → Each P xs × Each P ys
each_parts P [] ys h = (tt, h)
each_parts P (x ∷ xs) ys h = let r = each_parts P xs ys h.1 in ((h.0, r.0), r.1)

cells_of : (f : ℕ → Cell → Item) → ((i : ℕ) (c : Cell) → InPlace (f i c) → in_range c ≡ true) → (i : ℕ) (xs : List Cell)
    → Each InPlace (numbered f i xs) → Each (λ c. in_range c ≡ true) xs
cells_of f is i [] h = tt
cells_of f is i (x ∷ xs) h = (is i x h.0, cells_of f is (suc i) xs h.1)

module _ (below : List Cell) (short : length below ≤ 8) where
  eights : (hs ts : List ℕ) (cells : List Cell) → length cells ≡ 8 * length hs → Each (λ c. length c.saved ≡ 8) (choices_from below hs ts cells)
  eights [] ts cells e = tt
  eights (h ∷ hs) ts cells e =
      let long : length cells ≡ 8 * suc (length hs) = e in
      let front : length (take 8 cells) ≡ 8 = omega (arith, length-take 8 cells, long) in
      (ap length (over_all (take 8 cells) below (omega arith)) ∙ front, eights hs (drop 1 ts) (drop 8 cells) (omega (arith, length-drop 8 cells, long)))

  ranges : (hs ts : List ℕ) (cells : List Cell) → length cells ≡ 8 * length hs → Each (λ c. in_range c ≡ true) cells
      → Each (λ p. Each (λ c. in_range c ≡ true) p.saved) (choices_from below hs ts cells)
  ranges [] ts cells e each = tt
  ranges (h ∷ hs) ts cells e each =
      let long : length cells ≡ 8 * suc (length hs) = e in
      let front : length (take 8 cells) ≡ 8 = omega (arith, length-take 8 cells, long) in (
        subst (Each (λ c. in_range c ≡ true)) (sym (over_all (take 8 cells) below (omega arith))) (each_take (λ c. in_range c ≡ true) 8 cells each),
        ranges hs (drop 1 ts) (drop 8 cells) (omega (arith, length-drop 8 cells, long)) (each_drop (λ c. in_range c ≡ true) 8 cells each),
      )

fits_listing : (m : Listing) → Bounded m → whole m ≡ true → Each InPlace (items_of m) → Fits (tables_from m)
fits_listing m b w each =
    let a = and_parts (eqb (length m.registers) 8) (eqb (length m.trail_tops) (length m.heap_tops) && eqb (length m.saved) (8 * length m.heap_tops)) w in
    let d = and_parts (eqb (length m.trail_tops) (length m.heap_tops)) (eqb (length m.saved) (8 * length m.heap_tops)) a.1 in
    let eight = eqb-true (length m.registers) 8 a.0 in
    let long = eqb-true (length m.saved) (8 * length m.heap_tops) d.1 in
    let same = registers_all m.registers eight in
    let below = registers_from m.registers in
    let short : length below ≤ 8 = omega (arith, ap length same, eight) in
    let zs = choices_from below m.heap_tops m.trail_tops m.saved in
    let heap = each_parts InPlace (numbered item.Heap 0 m.heap) _ each in
    let registers = each_parts InPlace (numbered item.Register 0 m.registers) _ heap.1 in
    let trail = each_parts InPlace (numbered item.Trail 0 m.trail) _ registers.1 in
    let tops = each_parts InPlace (numbered item.HeapTop 0 m.heap_tops) _ trail.1 in
    let saved = each_parts InPlace (numbered item.TrailTop 0 m.trail_tops) _ tops.1 in
    record {
      cells = b.heap;
      entries = b.trail;
      points = omega (arith, length_choices m, b.tops);
      registers = ap length same ∙ eight;
      saved = each_reverse (λ (c : Choice). length c.saved ≡ 8) zs (eights below short m.heap_tops m.trail_tops m.saved long);
      heap_range = cells_of item.Heap (λ i c h. h) 0 m.heap heap.0;
      register_range = subst (Each (λ c. in_range c ≡ true)) (sym same) (cells_of item.Register (λ i c h. h) 0 m.registers registers.0);
      saved_range = each_reverse (λ (p : Choice). Each (λ c. in_range c ≡ true) p.saved) zs
          (ranges below short m.heap_tops m.trail_tops m.saved long (cells_of item.Saved (λ i c h. h) 0 m.saved saved.1));
    }

fits_read : (bytes : List ℕ) (t : Tables) → tables_in bytes ≡ Ok t → Fits t
fits_read bytes t e = by (split 10 bytes) e
  where
    fits : (pieces : List (List ℕ)) → Consists nothing pieces t → Fits t
    fits pieces c =
        subst Fits c.tables
        (fits_listing c.listing (bounded c.items nothing c.listing (record { heap = omega arith; trail = omega arith; tops = omega arith }) c.accepted) c.all
        (subst (Each InPlace) (items_accepted nothing c.listing c.items c.accepted) c.placed))

    after : (p : List ℕ) (ps : List (List ℕ)) (r : Result (Unit {0}) LineFault) → after_head r (read_lines nothing 2 (p ∷ ps)) ≡ Ok t → Fits t
    after p ps (Err f) e = absurd (let z : ◌≡◌ {A = ℕ} 0 1 = cc in omega arith)
    after p ps (Ok u) e = fits (p ∷ ps) (lines_consist (p ∷ ps) nothing 2 t e)

    by : (pieces : List (List ℕ)) → read_head pieces ≡ Ok t → Fits t
    by [] e = absurd (let z : ◌≡◌ {A = ℕ} 0 1 = cc in omega arith)
    by (piece ∷ []) e = absurd (let z : ◌≡◌ {A = ℕ} 0 1 = cc in omega arith)
    by (piece ∷ p ∷ ps) e = after p ps (head_read 1 piece) e

ruled_parts : (r : Result Tables LoadFault) (t : Tables) → ruled r ≡ Ok t → (r ≡ Ok t) × (fault t ≡ None)
ruled_parts (Err e) t h = absurd (let z : ◌≡◌ {A = ℕ} 0 1 = cc in omega arith)
ruled_parts (Ok u) t h = let p = by (fault u) refl h in (ap Ok p.0, p.1)
  where
    by : (o : Option Fault) → fault u ≡ o → fault_or u o ≡ Ok t → (u ≡ t) × (fault t ≡ None)
    by (Some f) is h = absurd (let z : ◌≡◌ {A = ℕ} 0 1 = cc in omega arith)
    by None is h = let same : u ≡ t = cc in (same, subst (λ v. fault v ≡ None) same is)

pub loaded_is_text : LoadedIsText
loaded_is_text bytes t = (
  λ e.
      let p = ruled_parts (tables_in bytes) t e in
      let fits = fits_read bytes t p.0 in
      (read_text bytes t p.0, (fault_none t (record { registers = fits.registers; saved = fits.saved })).0 p.1, fits),
  λ h. ap loaded h.0 ∙ loaded_text t h.1 h.2,
)
