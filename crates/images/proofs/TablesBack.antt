-- Tables come back from their listing, and a whole listing from its tables.
use Rattle.std.proofs.Common.{◌≡◌, ℕ, suc, ◌*◌, ◌≤◌, List, [], ◌∷◌, ◌++◌, map, reverse, length, take, drop, replicate, sym, refl, ap, ◌∙◌, subst, ap₂, arith}
use Rattle.std.specs.List.{flat_map}
use Rattle.std.proofs.lemmas.List.{append-nil, take_at, drop_at, drop_all, take-append-drop, reverse-reverse, reverse-append, length-take, length-drop, nil_from_length}
use Rattle.cells.specs.declared.cell.Cell.{Cell}
use Rattle.cells.specs.declared.cell.Cell.TheVariants.{Atom}
use Rattle.tables.specs.Tables.{Choice, Tables}
use Rattle.heaps.specs.Lists.{Each}
use Rattle.heaps.proofs.EachLaws.{each_append}
use Rattle.images.specs.Text.{Listing, listing_of}
use Rattle.images.specs.Reading.{over, choices_from, registers_from, tables_from}

pub over_all : (cells below : List Cell) → length below ≤ length cells → over cells below ≡ cells
over_all cells below h = ap (λ ys. cells ++ ys) (drop_all (length cells) below h) ∙ append-nil cells

pub registers_all : (cells : List Cell) → length cells ≡ 8 → registers_from cells ≡ cells
registers_all cells h = over_all cells (replicate 8 (Atom 0)) (let e : 8 ≤ length cells = omega arith in e)

pub each_reverse : {A : Type 0} (P : A → Type 0) (xs : List A) → Each P xs → Each P (reverse xs)
each_reverse P [] h = tt
each_reverse P (x ∷ xs) h = subst (Each P) (sym (reverse-append (x ∷ []) xs)) (each_append P (reverse xs) (x ∷ []) (each_reverse P xs h.1) (h.0, tt))

-- the choice points that are listed

pub choices_back : (below : List Cell) → length below ≤ 8 → (cs : List Choice) → Each (λ c. length c.saved ≡ 8) cs
    → choices_from below (map (λ c. c.heap_top) cs) (map (λ c. c.trail_top) cs) (flat_map (λ c. c.saved) cs) ≡ cs
choices_back below short [] h = refl
choices_back below short (c ∷ cs) h =
    let rest = flat_map (λ (d : Choice). d.saved) cs in
    ap₂ (λ ys zs. record { saved = over ys below; heap_top = c.heap_top; trail_top = c.trail_top } ∷ choices_from below (map (λ d. d.heap_top) cs) (map (λ d. d.trail_top) cs) zs)
    (take_at c.saved rest 8 h.0) (drop_at c.saved rest 8 h.0)
    ∙ ap₂ (λ ys ds. record { saved = ys; heap_top = c.heap_top; trail_top = c.trail_top } ∷ ds) (over_all c.saved below (omega (arith, h.0))) (choices_back below short cs h.1)

module _ (below : List Cell) (short : length below ≤ 8) where
  heap_tops_back : (hs ts : List ℕ) (cells : List Cell) → map (λ c. c.heap_top) (choices_from below hs ts cells) ≡ hs
  heap_tops_back [] ts cells = refl
  heap_tops_back (h ∷ hs) ts cells = ap (λ ys. h ∷ ys) (heap_tops_back hs (drop 1 ts) (drop 8 cells))

  trail_tops_back : (hs ts : List ℕ) (cells : List Cell) → length ts ≡ length hs → map (λ c. c.trail_top) (choices_from below hs ts cells) ≡ ts
  trail_tops_back [] ts cells e = sym (nil_from_length ts e)
  trail_tops_back (h ∷ hs) [] cells e = absurd (let z : 0 ≡ suc (length hs) = e in omega arith)
  trail_tops_back (h ∷ hs) (t ∷ ts) cells e =
      ap (λ ys. t ∷ ys) (trail_tops_back hs ts (drop 8 cells) (let s : suc (length ts) ≡ suc (length hs) = e in omega arith))

  saved_back : (hs ts : List ℕ) (cells : List Cell) → length cells ≡ 8 * length hs → flat_map (λ c. c.saved) (choices_from below hs ts cells) ≡ cells
  saved_back [] ts cells e = sym (nil_from_length cells (let z : length cells ≡ 8 * 0 = e in omega arith))
  saved_back (h ∷ hs) ts cells e =
      let long : length cells ≡ 8 * suc (length hs) = e in
      ap₂ (λ ys zs. ys ++ zs) (over_all (take 8 cells) below (omega (arith, length-take 8 cells, long)))
      (saved_back hs (drop 1 ts) (drop 8 cells) (omega (arith, length-drop 8 cells, long)))
      ∙ take-append-drop 8 cells

pub tables_back : (t : Tables) → length t.registers ≡ 8 → Each (λ c. length c.saved ≡ 8) t.choices → tables_from (listing_of t) ≡ t
tables_back t h each =
    let below = registers_from t.registers in
    let same = registers_all t.registers h in
    ap₂ (λ rs cs. record { heap = t.heap; registers = rs; trail = t.trail; choices = cs }) same
    (ap reverse (choices_back below (omega (arith, ap length same, h)) (reverse t.choices) (each_reverse (λ (c : Choice). length c.saved ≡ 8) t.choices each))
    ∙ reverse-reverse t.choices)

pub listing_back : (m : Listing) → length m.registers ≡ 8 → length m.trail_tops ≡ length m.heap_tops → length m.saved ≡ 8 * length m.heap_tops
    → listing_of (tables_from m) ≡ m
listing_back m h tops cells =
    let below = registers_from m.registers in
    let same = registers_all m.registers h in
    let short : length below ≤ 8 = omega (arith, ap length same, h) in
    let zs = choices_from below m.heap_tops m.trail_tops m.saved in
    let turn : reverse (reverse zs) ≡ zs = reverse-reverse zs in
    ap₂ (λ rs hs. record { heap = m.heap; registers = rs; trail = m.trail; heap_tops = hs; trail_tops = map (λ c. c.trail_top) (reverse (reverse zs)); saved = flat_map (λ c. c.saved) (reverse (reverse zs)) })
    same (ap (map (λ c. c.heap_top)) turn ∙ heap_tops_back below short m.heap_tops m.trail_tops m.saved)
    ∙ ap₂ (λ ts ss. record { heap = m.heap; registers = m.registers; trail = m.trail; heap_tops = m.heap_tops; trail_tops = ts; saved = ss })
    (ap (map (λ c. c.trail_top)) turn ∙ trail_tops_back below short m.heap_tops m.trail_tops m.saved tops)
    (ap (flat_map (λ c. c.saved)) turn ∙ saved_back below short m.heap_tops m.trail_tops m.saved cells)
