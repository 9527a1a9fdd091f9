-- The lines of a listing follow one another, and lines that follow one another are those of what they list.
use Rattle.std.proofs.Common.{◌≡◌, ℕ, suc, ◌+◌, ◌*◌, ◌<◌, ◌≤◌, true, eqb, List, [], ◌∷◌, ◌++◌, length, sym, refl, ap, subst, arith}
use Rattle.std.proofs.lemmas.List.{append-nil, append_assoc, length_push}
use Rattle.std.proofs.lemmas.Bool.{and_from, eq-eqb, lt-ltb}
use Rattle.cells.specs.declared.cell.Cell.{Cell}
use Rattle.lines.specs.declared.item.Item.{Item}
use Rattle.lines.specs.declared.item.Item.TheVariants as item
use Rattle.images.specs.Text.{Listing, numbered, items_of}
use Rattle.images.specs.Reading.{follows, added, nothing}

-- the lines follow l one after another, and m is listed in the end
abbrev pub Accepts : Listing → List Item → Listing → Type 0
Accepts l [] m = l ≡ m
Accepts l (x ∷ xs) m = (follows l x ≡ true) × Accepts (added l x) xs m

accepts_append : (l m k : Listing) (xs ys : List Item) → Accepts l xs m → Accepts m ys k → Accepts l (xs ++ ys) k
accepts_append l m k [] ys h g = subst (λ o. Accepts o ys k) (sym h) g
accepts_append l m k (x ∷ xs) ys h g = (h.0, accepts_append (added l x) m k xs ys h.1 g)

-- The lines of one part, of which F zs has listed zs.
module _ {A : Type 0} (F : List A → Listing) (f : ℕ → A → Item) (limit : ℕ)
    (adds : (zs : List A) (i : ℕ) (y : A) → added (F zs) (f i y) ≡ F (zs ++ (y ∷ [])))
    (nexts : (zs : List A) (i : ℕ) (y : A) → i ≡ length zs → i < limit → follows (F zs) (f i y) ≡ true) where
  accepts_part : (i : ℕ) (xs ys : List A) → i ≡ length xs → length xs + length ys ≤ limit → Accepts (F xs) (numbered f i ys) (F (xs ++ ys))
  accepts_part i xs [] is h = ap F (sym (append-nil xs))
  accepts_part i xs (y ∷ ys) is h =
      let room : length xs + suc (length ys) ≤ limit = h in (
        nexts xs i y is (omega arith),
        subst (λ l. Accepts l (numbered f (suc i) ys) (F (xs ++ (y ∷ ys)))) (sym (adds xs i y))
            (subst (λ zs. Accepts (F (xs ++ (y ∷ []))) (numbered f (suc i) ys) (F zs)) (append_assoc xs (y ∷ []) ys)
            (accepts_part (suc i) (xs ++ (y ∷ [])) ys (omega (arith, length_push xs y)) (omega (arith, length_push xs y)))),
      )

-- the places of a listing
pub record Placed (m : Listing) : Type 0 where
  pub heap : length m.heap ≤ 4096
  pub registers : length m.registers ≡ 8
  pub trail : length m.trail ≤ 4096
  pub heap_tops_count : length m.heap_tops ≤ 64
  pub trail_tops_count : length m.trail_tops ≡ length m.heap_tops
  pub saved : length m.saved ≡ 8 * length m.heap_tops

pub accepts_items : (m : Listing) → Placed m → Accepts nothing (items_of m) m
accepts_items m p =
    accepts_append nothing (f1 m.heap) m (numbered item.Heap 0 m.heap) _
    (accepts_part f1 item.Heap 4096 (λ zs i y. refl) (λ zs i y e h. and_from _ _ (eq-eqb i _ e) (and_from _ _ (lt-ltb i 4096 h) refl)) 0 [] m.heap refl (omega (arith, p.heap)))
    (accepts_append (f1 m.heap) (f2 m.registers) m (numbered item.Register 0 m.registers) _
    (accepts_part f2 item.Register 8 (λ zs i y. refl) (λ zs i y e h. and_from _ _ (eq-eqb i _ e) (and_from _ _ (lt-ltb i 8 h) refl)) 0 [] m.registers refl (omega (arith, p.registers)))
    (accepts_append (f2 m.registers) (f3 m.trail) m (numbered item.Trail 0 m.trail) _
    (accepts_part f3 item.Trail 4096 (λ zs i y. refl) (λ zs i y e h. and_from _ _ (eq-eqb i _ e) (and_from _ _ (lt-ltb i 4096 h) (and_from _ _ eight refl))) 0 [] m.trail refl (omega (arith, p.trail)))
    (accepts_append (f3 m.trail) (f4 m.heap_tops) m (numbered item.HeapTop 0 m.heap_tops) _
    (accepts_part f4 item.HeapTop 64 (λ zs i y. refl) (λ zs i y e h. and_from _ _ (eq-eqb i _ e) (and_from _ _ (lt-ltb i 64 h) (and_from _ _ eight refl))) 0 [] m.heap_tops refl (omega (arith, p.heap_tops_count)))
    (accepts_append (f4 m.heap_tops) (f5 m.trail_tops) m (numbered item.TrailTop 0 m.trail_tops) _
    (accepts_part f5 item.TrailTop (length m.heap_tops) (λ zs i y. refl) (λ zs i y e h. and_from _ _ (eq-eqb i _ e) (and_from _ _ (lt-ltb i _ h) (and_from _ _ eight refl))) 0 [] m.trail_tops refl (omega (arith, p.trail_tops_count)))
    (accepts_part f6 item.Saved (8 * length m.heap_tops) (λ zs i y. refl)
    (λ zs i y e h. and_from _ _ (eq-eqb i _ e) (and_from _ _ (lt-ltb i _ h) (and_from _ _ eight (eq-eqb _ _ p.trail_tops_count)))) 0 [] m.saved refl (omega (arith, p.saved)))))))
  where
    eight : eqb (length m.registers) 8 ≡ true
    eight = eq-eqb _ 8 p.registers

    f1 : List Cell → Listing
    f1 zs = record { heap = zs; registers = []; trail = []; heap_tops = []; trail_tops = []; saved = [] }

    f2 : List Cell → Listing
    f2 zs = record { heap = m.heap; registers = zs; trail = []; heap_tops = []; trail_tops = []; saved = [] }

    f3 : List ℕ → Listing
    f3 zs = record { heap = m.heap; registers = m.registers; trail = zs; heap_tops = []; trail_tops = []; saved = [] }

    f4 : List ℕ → Listing
    f4 zs = record { heap = m.heap; registers = m.registers; trail = m.trail; heap_tops = zs; trail_tops = []; saved = [] }

    f5 : List ℕ → Listing
    f5 zs = record { heap = m.heap; registers = m.registers; trail = m.trail; heap_tops = m.heap_tops; trail_tops = zs; saved = [] }

    f6 : List Cell → Listing
    f6 zs = record { heap = m.heap; registers = m.registers; trail = m.trail; heap_tops = m.heap_tops; trail_tops = m.trail_tops; saved = zs }
