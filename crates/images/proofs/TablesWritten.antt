-- Tables that keep the rules and fit the memory have a text that can be read.
use Rattle.std.proofs.Common.{◌≡◌, ℕ, suc, ◌+◌, ◌*◌, ◌^◌, ◌<◌, ◌≤◌, true, List, [], ◌∷◌, map, reverse, length, sym, refl, ap, ◌∙◌, arith}
use Rattle.std.specs.List.{flat_map}
use Rattle.std.proofs.lemmas.List.{length-append, length-map, length-reverse}
use Rattle.std.proofs.lemmas.Bool.{and_from, eq-eqb, le-leb}
use Rattle.cells.specs.declared.cell.Cell.{Cell}
use Rattle.cells.specs.Cells.{in_range}
use Rattle.tables.specs.Tables.{Choice, Tables, used}
use Rattle.heaps.specs.Lists.{Each}
use Rattle.heaps.specs.Rules.{EntryNames, TopsFall, Rules, Fits}
use Rattle.heaps.specs.Leads.{heap_of}
use Rattle.heaps.proofs.EachLaws.{each_append, each_map}
use Rattle.lines.specs.declared.item.Item.{Item}
use Rattle.lines.specs.declared.item.Item.TheVariants as item
use Rattle.images.specs.Text.{listing_of, numbered, items_of}
use Rattle.images.specs.Reading.{whole}
use Rattle.images.proofs.Accepted.{Placed}
use Rattle.images.proofs.TextsBack.{Written}
use Rattle.images.proofs.TablesBack.{each_reverse}

length_joined : (cs : List Choice) → Each (λ c. length c.saved ≡ 8) cs → length (flat_map (λ c. c.saved) cs) ≡ 8 * length cs
length_joined [] h = refl
length_joined (c ∷ cs) h = omega (arith, length-append c.saved (flat_map (λ d. d.saved) cs), h.0, length_joined cs h.1)

each_joined : (P : Cell → Type 0) (cs : List Choice) → Each (λ c. Each P c.saved) cs → Each P (flat_map (λ c. c.saved) cs)
each_joined P [] h = tt
each_joined P (c ∷ cs) h = each_append P c.saved (flat_map (λ d. d.saved) cs) h.0 (each_joined P cs h.1)

tops_low : (a b : ℕ) (cs : List Choice) → a ≤ 4096 → b ≤ 4096 → TopsFall a b cs → Each (λ c. (c.heap_top ≤ 4096) × (c.trail_top ≤ 4096)) cs
tops_low a b [] ha hb h = tt
tops_low a b (c ∷ cs) ha hb h =
    let low : c.heap_top ≤ 4096 = omega (arith, h.0) in
    let few : c.trail_top ≤ 4096 = omega (arith, h.1) in
    ((low, few), tops_low c.heap_top c.trail_top cs low few h.2)

each_of : {A B : Type 0} (P : B → Type 0) (f : A → B) (xs : List A) → Each (λ x. P (f x)) xs → Each P (map f xs)
each_of P f [] h = tt
each_of P f (x ∷ xs) h = (h.0, each_of P f xs h.1)

-- the lines of a part with at most 4,096 places
written : {A : Type 0} (P : A → Type 0) (f : ℕ → A → Item) → ((i : ℕ) (x : A) → i < 10 ^ 10 → P x → Written (f i x))
    → (i : ℕ) (xs : List A) → i + length xs ≤ 4096 → Each P xs → Each Written (numbered f i xs)
written P f is i [] h each = tt
written P f is i (x ∷ xs) h each =
    let room : i + suc (length xs) ≤ 4096 = h in
    (is i x (omega arith) each.0, written P f is (suc i) xs (omega arith) each.1)

module _ (t : Tables) (rules : Rules t) (fits : Fits t) where
  abbrev old : List Choice
  old = reverse t.choices

  points : length old ≡ length t.choices
  points = length-reverse t.choices

  eights : Each (λ c. length c.saved ≡ 8) old
  eights = each_reverse (λ (c : Choice). length c.saved ≡ 8) t.choices fits.saved

  pub tables_placed : Placed (listing_of t)
  tables_placed =
      record {
        heap = fits.cells;
        registers = fits.registers;
        trail = fits.entries;
        heap_tops_count = omega (arith, length-map old (λ (c : Choice). c.heap_top), points, fits.points);
        trail_tops_count = length-map old (λ (c : Choice). c.trail_top) ∙ sym (length-map old (λ (c : Choice). c.heap_top));
        saved = length_joined old eights ∙ ap (λ n. 8 * n) (sym (length-map old (λ (c : Choice). c.heap_top)));
      }

  pub tables_whole : whole (listing_of t) ≡ true
  tables_whole =
      and_from _ _ (eq-eqb _ 8 tables_placed.registers) (and_from _ _ (eq-eqb _ _ tables_placed.trail_tops_count) (eq-eqb _ _ tables_placed.saved))

  lows : Each (λ c. (c.heap_top ≤ 4096) × (c.trail_top ≤ 4096)) old
  lows = each_reverse (λ (c : Choice). (c.heap_top ≤ 4096) × (c.trail_top ≤ 4096)) t.choices (tops_low (used t) (length t.trail) t.choices fits.cells fits.entries rules.tops)

  entries : Each (λ n. n ≤ 4096) t.trail
  entries = each_map (EntryNames (heap_of t.heap) (used t)) (λ n. n ≤ 4096) (λ e h. omega (arith, h.0, fits.cells)) t.trail rules.trail.1

  cell_written : (f : ℕ → Cell → Item) → ((i : ℕ) (c : Cell) → i < 10 ^ 10 → in_range c ≡ true → Written (f i c))
      → (xs : List Cell) → length xs ≤ 4096 → Each (λ c. in_range c ≡ true) xs → Each Written (numbered f 0 xs)
  cell_written f is xs h each = written (λ c. in_range c ≡ true) f is 0 xs (omega arith) each

  number_written : (f : ℕ → ℕ → Item) → ((i n : ℕ) → i < 10 ^ 10 → n ≤ 4096 → Written (f i n))
      → (xs : List ℕ) → length xs ≤ 4096 → Each (λ n. n ≤ 4096) xs → Each Written (numbered f 0 xs)
  number_written f is xs h each = written (λ n. n ≤ 4096) f is 0 xs (omega arith) each

  pub tables_written : Each Written (items_of (listing_of t))
  tables_written =
      let m = listing_of t in
      let p = tables_placed in
      each_append Written _ _ (cell_written item.Heap (λ i c low h. (h, low)) m.heap p.heap fits.heap_range)
      (each_append Written _ _ (cell_written item.Register (λ i c low h. (h, low)) m.registers (omega (arith, p.registers)) fits.register_range)
      (each_append Written _ _ (number_written item.Trail (λ i n low h. (le-leb n 4096 h, low)) m.trail p.trail entries)
      (each_append Written _ _ (number_written item.HeapTop (λ i n low h. (le-leb n 4096 h, low)) m.heap_tops (omega (arith, p.heap_tops_count))
      (each_of (λ n. n ≤ 4096) (λ (c : Choice). c.heap_top) old (each_map (λ (c : Choice). (c.heap_top ≤ 4096) × (c.trail_top ≤ 4096)) (λ c. c.heap_top ≤ 4096) (λ c h. h.0) old lows)))
      (each_append Written _ _ (number_written item.TrailTop (λ i n low h. (le-leb n 4096 h, low)) m.trail_tops (omega (arith, p.heap_tops_count, p.trail_tops_count))
      (each_of (λ n. n ≤ 4096) (λ (c : Choice). c.trail_top) old (each_map (λ (c : Choice). (c.heap_top ≤ 4096) × (c.trail_top ≤ 4096)) (λ c. c.trail_top ≤ 4096) (λ c h. h.1) old lows)))
      (cell_written item.Saved (λ i c low h. (h, low)) m.saved (omega (arith, p.saved, p.heap_tops_count))
      (each_joined (λ c. in_range c ≡ true) old (each_reverse (λ (d : Choice). Each (λ c. in_range c ≡ true) d.saved) t.choices fits.saved_range)))))))
