-- Lines that follow one another are the lines of what they list.
use Rattle.std.proofs.Common.{◌≡◌, ℕ, suc, ◌+◌, ◌*◌, Bool, true, ◌&&◌, eqb, ltb, List, [], ◌∷◌, ◌++◌, length, sym, ap, ◌∙◌, ap₂, zero-add, arith}
use Rattle.std.proofs.lemmas.List.{append-nil, append_assoc, nil_from_length}
use Rattle.std.proofs.lemmas.Bool.{and_parts, eqb-true}
use Rattle.lines.specs.declared.item.Item.{Item}
use Rattle.lines.specs.declared.item.Item.TheVariants as item
use Rattle.lines.specs.Lines.{none}
use Rattle.images.specs.Text.{Listing, numbered, items_of}
use Rattle.images.specs.Reading.{no_tops, no_choices, no_trail, no_registers, follows, added}
use Rattle.images.proofs.Accepted.{Accepts}

numbered_push : {A : Type 0} (f : ℕ → A → Item) (j : ℕ) (xs : List A) (y : A) → numbered f j (xs ++ (y ∷ [])) ≡ numbered f j xs ++ (f (j + length xs) y ∷ [])
numbered_push f j [] y = ap (λ k. f k y ∷ []) (let same : j ≡ j + 0 = omega arith in same)
numbered_push f j (x ∷ xs) y =
    ap (λ zs. f j x ∷ zs) (numbered_push f (suc j) xs y ∙ ap (λ k. numbered f (suc j) xs ++ (f k y ∷ [])) (let same : suc j + length xs ≡ j + suc (length xs) = omega arith in same))

-- one more line of a part, with the index i
part_push : {A : Type 0} (f : ℕ → A → Item) (i : ℕ) (xs : List A) (y : A) → i ≡ length xs → numbered f 0 xs ++ (f i y ∷ []) ≡ numbered f 0 (xs ++ (y ∷ []))
part_push f i xs y is = ap (λ k. numbered f 0 xs ++ (f k y ∷ [])) (is ∙ sym (zero-add (length xs))) ∙ sym (numbered_push f 0 xs y)

-- it comes after the part where nothing is listed behind it, and else behind
push_here : (a rest : List Item) (x : Item) {b : List Item} → rest ≡ [] → a ++ (x ∷ []) ≡ b → (a ++ rest) ++ (x ∷ []) ≡ b ++ rest
push_here a rest x {b} blank e =
    ap (λ r. (a ++ r) ++ (x ∷ [])) blank ∙ ap (λ r. r ++ (x ∷ [])) (append-nil a) ∙ e ∙ sym (append-nil b) ∙ ap (λ r. b ++ r) (sym blank)

push_behind : (a rest : List Item) (x : Item) {more : List Item} → rest ++ (x ∷ []) ≡ more → (a ++ rest) ++ (x ∷ []) ≡ a ++ more
push_behind a rest x e = append_assoc a rest (x ∷ []) ∙ ap (λ r. a ++ r) e

nobody : {A : Type 0} (f : ℕ → A → Item) (xs : List A) → none xs ≡ true → numbered f 0 xs ≡ []
nobody f xs h = ap (numbered f 0) (nil_from_length xs (eqb-true (length xs) 0 h))

-- the first and the last of three or four tests
ends3 : (a b d : Bool) → (a && (b && d)) ≡ true → (a ≡ true) × (d ≡ true)
ends3 a b d h = let p = and_parts a (b && d) h in (p.0, (and_parts b d p.1).1)

ends4 : (a b c d : Bool) → (a && (b && (c && d))) ≡ true → (a ≡ true) × (d ≡ true)
ends4 a b c d h = let p = ends3 a b (c && d) h in (p.0, (and_parts c d p.1).1)

module _ (l : Listing) where
  abbrev heap_items : List Item
  heap_items = numbered item.Heap 0 l.heap

  abbrev register_items : List Item
  register_items = numbered item.Register 0 l.registers

  abbrev trail_items : List Item
  trail_items = numbered item.Trail 0 l.trail

  abbrev heap_top_items : List Item
  heap_top_items = numbered item.HeapTop 0 l.heap_tops

  abbrev trail_top_items : List Item
  trail_top_items = numbered item.TrailTop 0 l.trail_tops

  abbrev saved_items : List Item
  saved_items = numbered item.Saved 0 l.saved

  no_tops_lem : no_tops l ≡ true → trail_top_items ++ saved_items ≡ []
  no_tops_lem h =
      let p = and_parts (none l.trail_tops) (none l.saved) h in
      ap₂ (λ a b. a ++ b) (nobody item.TrailTop l.trail_tops p.0) (nobody item.Saved l.saved p.1)

  no_choices_lem : no_choices l ≡ true → heap_top_items ++ (trail_top_items ++ saved_items) ≡ []
  no_choices_lem h = let p = and_parts (none l.heap_tops) (no_tops l) h in ap₂ (λ a b. a ++ b) (nobody item.HeapTop l.heap_tops p.0) (no_tops_lem p.1)

  no_trail_lem : no_trail l ≡ true → trail_items ++ (heap_top_items ++ (trail_top_items ++ saved_items)) ≡ []
  no_trail_lem h = let p = and_parts (none l.trail) (no_choices l) h in ap₂ (λ a b. a ++ b) (nobody item.Trail l.trail p.0) (no_choices_lem p.1)

  no_registers_lem : no_registers l ≡ true → register_items ++ (trail_items ++ (heap_top_items ++ (trail_top_items ++ saved_items))) ≡ []
  no_registers_lem h = let p = and_parts (none l.registers) (no_trail l) h in ap₂ (λ a b. a ++ b) (nobody item.Register l.registers p.0) (no_trail_lem p.1)

  item_push : (x : Item) → follows l x ≡ true → items_of l ++ (x ∷ []) ≡ items_of (added l x)
  item_push (item.Heap i c) h =
      let x = item.Heap i c in
      let a = ends3 (eqb i (length l.heap)) (ltb i 4096) (no_registers l) h in
      push_here heap_items (register_items ++ (trail_items ++ (heap_top_items ++ (trail_top_items ++ saved_items)))) x (no_registers_lem a.1)
      (part_push item.Heap i l.heap c (eqb-true i (length l.heap) a.0))
  item_push (item.Register i c) h =
      let x = item.Register i c in
      let a = ends3 (eqb i (length l.registers)) (ltb i 8) (no_trail l) h in
      push_behind heap_items (register_items ++ (trail_items ++ (heap_top_items ++ (trail_top_items ++ saved_items)))) x
      (push_here register_items (trail_items ++ (heap_top_items ++ (trail_top_items ++ saved_items))) x (no_trail_lem a.1)
      (part_push item.Register i l.registers c (eqb-true i (length l.registers) a.0)))
  item_push (item.Trail i n) h =
      let x = item.Trail i n in
      let a = ends4 (eqb i (length l.trail)) (ltb i 4096) (eqb (length l.registers) 8) (no_choices l) h in
      push_behind heap_items (register_items ++ (trail_items ++ (heap_top_items ++ (trail_top_items ++ saved_items)))) x
      (push_behind register_items (trail_items ++ (heap_top_items ++ (trail_top_items ++ saved_items))) x
      (push_here trail_items (heap_top_items ++ (trail_top_items ++ saved_items)) x (no_choices_lem a.1)
      (part_push item.Trail i l.trail n (eqb-true i (length l.trail) a.0))))
  item_push (item.HeapTop i n) h =
      let x = item.HeapTop i n in
      let a = ends4 (eqb i (length l.heap_tops)) (ltb i 64) (eqb (length l.registers) 8) (no_tops l) h in
      push_behind heap_items (register_items ++ (trail_items ++ (heap_top_items ++ (trail_top_items ++ saved_items)))) x
      (push_behind register_items (trail_items ++ (heap_top_items ++ (trail_top_items ++ saved_items))) x
      (push_behind trail_items (heap_top_items ++ (trail_top_items ++ saved_items)) x
      (push_here heap_top_items (trail_top_items ++ saved_items) x (no_tops_lem a.1)
      (part_push item.HeapTop i l.heap_tops n (eqb-true i (length l.heap_tops) a.0)))))
  item_push (item.TrailTop i n) h =
      let x = item.TrailTop i n in
      let a = ends4 (eqb i (length l.trail_tops)) (ltb i (length l.heap_tops)) (eqb (length l.registers) 8) (none l.saved) h in
      push_behind heap_items (register_items ++ (trail_items ++ (heap_top_items ++ (trail_top_items ++ saved_items)))) x
      (push_behind register_items (trail_items ++ (heap_top_items ++ (trail_top_items ++ saved_items))) x
      (push_behind trail_items (heap_top_items ++ (trail_top_items ++ saved_items)) x
      (push_behind heap_top_items (trail_top_items ++ saved_items) x
      (push_here trail_top_items saved_items x (nobody item.Saved l.saved a.1)
      (part_push item.TrailTop i l.trail_tops n (eqb-true i (length l.trail_tops) a.0))))))
  item_push (item.Saved i c) h =
      let x = item.Saved i c in
      let a = ends4 (eqb i (length l.saved)) (ltb i (8 * length l.heap_tops)) (eqb (length l.registers) 8) (eqb (length l.trail_tops) (length l.heap_tops)) h in
      push_behind heap_items (register_items ++ (trail_items ++ (heap_top_items ++ (trail_top_items ++ saved_items)))) x
      (push_behind register_items (trail_items ++ (heap_top_items ++ (trail_top_items ++ saved_items))) x
      (push_behind trail_items (heap_top_items ++ (trail_top_items ++ saved_items)) x
      (push_behind heap_top_items (trail_top_items ++ saved_items) x
      (push_behind trail_top_items saved_items x (part_push item.Saved i l.saved c (eqb-true i (length l.saved) a.0))))))

pub items_accepted : (l m : Listing) (xs : List Item) → Accepts l xs m → items_of l ++ xs ≡ items_of m
items_accepted l m [] h = append-nil (items_of l) ∙ ap items_of h
items_accepted l m (x ∷ xs) h =
    sym (append_assoc (items_of l) (x ∷ []) xs) ∙ ap (λ ys. ys ++ xs) (item_push l x h.0) ∙ items_accepted (added l x) m xs h.1
