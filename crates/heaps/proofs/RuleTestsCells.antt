-- Rules 1 to 4: the tests of cells, registers and saved registers decide them.
use Rattle.std.proofs.Common.{◌≡◌, ℕ, suc, ◌+◌, ◌*◌, ◌/◌, ◌%◌, ◌<◌, ◌≤◌, true, false, not, ◌||◌, leb, ◌↔◌, List, length, get_or, refl, subst, ap₂, arith}
use Rattle.std.proofs.lemmas.Bool.{both_ways, leb-false, lt-leb, not-false, not_from_true, or_parts, or_from}
use Rattle.cells.specs.declared.cell.Cell.{Cell}
use Rattle.cells.specs.declared.cell.Cell.TheVariants.{Reference, Pointer, Functor, Atom, Integer}
use Rattle.tables.specs.Tables.{Tables, used}
use Rattle.heaps.specs.declared.rule.Rule.TheVariants.{References, Pointers, Arguments, Registers}
use Rattle.heaps.specs.Lists.{Each}
use Rattle.heaps.specs.Leads.{Heap, heap_of, is_functor}
use Rattle.heaps.specs.Rules.{ReferencesLead, PointersLead, ArgumentsStand, WordKeeps, RegistersKeep, Fits}
use Rattle.heaps.specs.Reached.{any_from}
use Rattle.heaps.specs.RuleTests.{stray_reference, stray_pointer, lacks_argument, stray_word, oldest, saved_at, parts_of}
use Rattle.heaps.specs.RuleTestLaws.{InEights, Faultless}
use Rattle.heaps.proofs.RuleTestsBasics.{none_from, from_none, each_at, at_each, each_oldest, oldest_each}

module _ (h : Heap) (n : ℕ) where
  no_stray_reference : (c : Cell) → ((m : ℕ) → c ≡ Reference m → (m < n) × (is_functor (h m) ≡ false)) → stray_reference h n c ≡ false
  no_stray_reference (Reference m) f = let r = f m refl in or_from (leb n m) (is_functor (h m)) (lt-leb n m r.0) r.1
  no_stray_reference (Pointer m) f = refl
  no_stray_reference (Functor name arity) f = refl
  no_stray_reference (Atom a) f = refl
  no_stray_reference (Integer z) f = refl

  no_stray_pointer : (c : Cell) → ((m : ℕ) → c ≡ Pointer m → (m < n) × (is_functor (h m) ≡ true)) → stray_pointer h n c ≡ false
  no_stray_pointer (Reference m) f = refl
  no_stray_pointer (Pointer m) f =
      let r = f m refl in or_from (leb n m) (not (is_functor (h m))) (lt-leb n m r.0) (not_from_true (is_functor (h m)) r.1)
  no_stray_pointer (Functor name arity) f = refl
  no_stray_pointer (Atom a) f = refl
  no_stray_pointer (Integer z) f = refl

  lacks_none : (i : ℕ) (c : Cell)
      → ((name arity j : ℕ) → c ≡ Functor name arity → i < j → j ≤ i + arity → (j < n) × (is_functor (h j) ≡ false))
      → lacks_argument h n i c ≡ false
  lacks_none i (Reference m) f = refl
  lacks_none i (Pointer m) f = refl
  lacks_none i (Functor name arity) f =
      from_none (λ j. leb n j || is_functor (h j)) (suc i) arity (λ j a b.
      let r = f name arity j refl (omega arith) (omega arith) in
      or_from (leb n j) (is_functor (h j)) (lt-leb n j r.0) r.1)
  lacks_none i (Atom a) f = refl
  lacks_none i (Integer z) f = refl

  keeps_no_stray : (w : Cell) → WordKeeps h n w → stray_word h n w ≡ false
  keeps_no_stray (Reference m) k =
      or_from (leb n m || is_functor (h m)) false (or_from (leb n m) (is_functor (h m)) (lt-leb n m k.0) k.1) refl
  keeps_no_stray (Pointer m) k =
      or_from (leb n m) (not (is_functor (h m))) (lt-leb n m k.0) (not_from_true (is_functor (h m)) k.1)
  keeps_no_stray (Functor name arity) k = absurd k
  keeps_no_stray (Atom a) k = refl
  keeps_no_stray (Integer z) k = refl

  no_stray_keeps : (w : Cell) → stray_word h n w ≡ false → WordKeeps h n w
  no_stray_keeps (Reference m) e =
      let r = or_parts (leb n m) (is_functor (h m)) (or_parts (leb n m || is_functor (h m)) false e).0 in
      (leb-false n m r.0, r.1)
  no_stray_keeps (Pointer m) e =
      let r = or_parts (leb n m) (not (is_functor (h m))) e in (leb-false n m r.0, not-false (is_functor (h m)) r.1)
  no_stray_keeps (Functor name arity) e = absurd (both_ways true e refl)
  no_stray_keeps (Atom a) e = tt
  no_stray_keeps (Integer z) e = tt

-- the saved registers by choice point and register
pub saved_at_lem : (t : Tables) (q r : ℕ) → r < 8 → saved_at t (8 * q + r) ≡ get_or (oldest t q).saved r (Atom 0)
saved_at_lem t q r lt =
    let a : (8 * q + r) / 8 ≡ q = omega arith in
    let b : (8 * q + r) % 8 ≡ r = omega arith in
    ap₂ (λ (x y : ℕ). get_or (oldest t x).saved y (Atom 0)) a b

pub fits_eights : (t : Tables) → Fits t → InEights t
fits_eights t f = record { registers = f.registers; saved = f.saved }

module _ (t : Tables) where
  pub references_decided : ReferencesLead (heap_of t.heap) (used t) ↔ Faultless (parts_of t References)
  references_decided = (
    λ r. ((λ i lt. no_stray_reference h (used t) (h i) (λ m e. r i m lt e)), tt),
    λ f i m lt e.
        let s : (leb (used t) m || is_functor (h m)) ≡ false = subst (λ (c : Cell). stray_reference h (used t) c ≡ false) e (f.0 i lt) in
        let p = or_parts (leb (used t) m) (is_functor (h m)) s in
        (leb-false (used t) m p.0, p.1),
  )
    where
      h : Heap
      h = heap_of t.heap

  pub pointers_decided : PointersLead (heap_of t.heap) (used t) ↔ Faultless (parts_of t Pointers)
  pointers_decided = (
    λ r. ((λ i lt. no_stray_pointer h (used t) (h i) (λ m e. r i m lt e)), tt),
    λ f i m lt e.
        let s : (leb (used t) m || not (is_functor (h m))) ≡ false = subst (λ (c : Cell). stray_pointer h (used t) c ≡ false) e (f.0 i lt) in
        let p = or_parts (leb (used t) m) (not (is_functor (h m))) s in
        (leb-false (used t) m p.0, not-false (is_functor (h m)) p.1),
  )
    where
      h : Heap
      h = heap_of t.heap

  pub arguments_decided : ArgumentsStand (heap_of t.heap) (used t) ↔ Faultless (parts_of t Arguments)
  arguments_decided = (
    λ r. ((λ i lt. lacks_none h (used t) i (h i) (λ name arity j e a b. r i name arity j lt e a b)), tt),
    λ f i name arity j lt e a b.
        let s : any_from (suc i) arity (λ k. leb (used t) k || is_functor (h k)) ≡ false =
        subst (λ (c : Cell). lacks_argument h (used t) i c ≡ false) e (f.0 i lt) in
        let p = or_parts (leb (used t) j) (is_functor (h j)) (none_from (λ k. leb (used t) k || is_functor (h k)) (suc i) arity s j (omega arith) (omega arith)) in
        (leb-false (used t) j p.0, p.1),
  )
    where
      h : Heap
      h = heap_of t.heap

  abbrev Keeps : Cell → Type 0
  Keeps w = WordKeeps (heap_of t.heap) (used t) w

  abbrev NotStray : Cell → Type 0
  NotStray w = stray_word (heap_of t.heap) (used t) w ≡ false

  -- eight words, by their places
  words_at : (ws : List Cell) → length ws ≡ 8 → Each Keeps ws → (r : ℕ) → r < 8 → NotStray (get_or ws r (Atom 0))
  words_at ws e k r lt = keeps_no_stray (heap_of t.heap) (used t) (get_or ws r (Atom 0)) (each_at Keeps ws (Atom 0) k r (omega arith))

  at_words : (ws : List Cell) → length ws ≡ 8 → ((r : ℕ) → r < 8 → NotStray (get_or ws r (Atom 0))) → Each Keeps ws
  at_words ws e f =
      at_each Keeps ws (Atom 0) (λ r lt. no_stray_keeps (heap_of t.heap) (used t) (get_or ws r (Atom 0)) (f r (omega arith)))

  module _ (eights : InEights t) where
    eight : (p : ℕ) → p < length t.choices → length (oldest t p).saved ≡ 8
    eight = each_oldest t (λ c. length c.saved ≡ 8) eights.saved

    keep_registers : RegistersKeep t → Faultless (parts_of t Registers)
    keep_registers k = (
      words_at t.registers eights.registers k.0,
      (
        (λ p lt.
            let q : p / 8 < length t.choices = omega arith in
            words_at (oldest t (p / 8)).saved (eight (p / 8) q) (each_oldest t (λ c. Each Keeps c.saved) k.1 (p / 8) q) (p % 8) (omega arith)),
        tt,
      ),
    )

    registers_keep : Faultless (parts_of t Registers) → RegistersKeep t
    registers_keep f = (
      at_words t.registers eights.registers f.0,
      oldest_each t (λ c. Each Keeps c.saved) (λ q lt.
          at_words (oldest t q).saved (eight q lt) (λ r lt8. subst NotStray (saved_at_lem t q r lt8) (f.1.0 (8 * q + r) (omega arith)))),
    )

    pub registers_decided : RegistersKeep t ↔ Faultless (parts_of t Registers)
    registers_decided = (keep_registers, registers_keep)
