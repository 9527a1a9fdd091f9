-- Rule 5: the test of trail entries decides it.
use Rattle.std.proofs.Common.{◌≡◌, ℕ, zero, suc, ◌<◌, Bool, false, ◌||◌, eqb, leb, ◌↔◌, List, [], ◌∷◌, length, get_or, take, sym, refl, ◌∙◌, arith}
use Rattle.std.proofs.lemmas.List.{get_or-take, length-take}
use Rattle.std.proofs.lemmas.Bool.{leb-false, lt-leb, eqb-false, ne_eqb, or_parts, or_from}
use Rattle.tables.specs.Tables.{Tables, used}
use Rattle.heaps.specs.declared.rule.Rule.TheVariants.{Trail}
use Rattle.heaps.specs.Lists.{is_in, Different}
use Rattle.heaps.specs.Leads.{Heap, heap_of, unbound, is_functor}
use Rattle.heaps.specs.Rules.{EntryNames, TrailNames}
use Rattle.heaps.specs.RuleTests.{misnames, parts_of}
use Rattle.heaps.specs.RuleTestLaws.{Faultless}
use Rattle.heaps.proofs.RuleTestsBasics.{each_at, at_each}

absent_at : (x : ℕ) (ys : List ℕ) → is_in x ys ≡ false → (i : ℕ) → i < length ys → get_or ys i 0 ≡ x → ⊥
absent_at x [] e i lt = absurd (omega arith)
absent_at x (y ∷ ys) e zero lt = eqb-false y x (or_parts (eqb y x) (is_in x ys) e).0
absent_at x (y ∷ ys) e (suc i) lt = absent_at x ys (or_parts (eqb y x) (is_in x ys) e).1 i (omega arith)

at_absent : (x : ℕ) (ys : List ℕ) → ((i : ℕ) → i < length ys → get_or ys i 0 ≡ x → ⊥) → is_in x ys ≡ false
at_absent x [] f = refl
at_absent x (y ∷ ys) f =
    or_from (eqb y x) (is_in x ys) (ne_eqb y x (f 0 (omega arith))) (at_absent x ys (λ i lt. f (suc i) (omega arith)))

-- different members, by their places
abbrev Apart : List ℕ → Type 0
Apart xs = (i j : ℕ) → i < j → j < length xs → get_or xs i 0 ≡ get_or xs j 0 → ⊥

different_apart : (xs : List ℕ) → Different xs → Apart xs
different_apart [] d i j a b = absurd (omega arith)
different_apart (x ∷ xs) d i zero a b = absurd (omega arith)
different_apart (x ∷ xs) d zero (suc j) a b = λ e. absent_at x xs d.0 j (omega arith) (sym e)
different_apart (x ∷ xs) d (suc i) (suc j) a b = different_apart xs d.1 i j (omega arith) (omega arith)

apart_different : (xs : List ℕ) → Apart xs → Different xs
apart_different [] f = tt
apart_different (x ∷ xs) f = (
  at_absent x xs (λ j lt e. f 0 (suc j) (omega arith) (omega arith) (sym e)),
  apart_different xs (λ i j a b. f (suc i) (suc j) (omega arith) (omega arith)),
)

-- An entry is apart from the earlier ones where it is not among them.
apart_earlier : (xs : List ℕ) → Apart xs → (j : ℕ) → j < length xs → is_in (get_or xs j 0) (take j xs) ≡ false
apart_earlier xs f j lt =
    at_absent (get_or xs j 0) (take j xs) (λ i a e.
    let l = length-take j xs in
    let b : i < j = omega arith in
    f i j b lt (sym (get_or-take j xs i 0 b) ∙ e))

earlier_apart : (xs : List ℕ) → ((j : ℕ) → j < length xs → is_in (get_or xs j 0) (take j xs) ≡ false) → Apart xs
earlier_apart xs f i j a b e =
    let l = length-take j xs in
    absent_at (get_or xs j 0) (take j xs) (f j b) i (omega arith) (get_or-take j xs i 0 a ∙ e)

module _ (h : Heap) (n : ℕ) where
  names_well : (e : ℕ) → EntryNames h n e → misnames h n e ≡ false
  names_well e k =
      or_from (leb n e) (unbound h e || is_functor (h e)) (lt-leb n e k.0) (or_from (unbound h e) (is_functor (h e)) k.1 k.2)

  well_names : (e : ℕ) → misnames h n e ≡ false → EntryNames h n e
  well_names e k =
      let r = or_parts (leb n e) (unbound h e || is_functor (h e)) k in
      let s = or_parts (unbound h e) (is_functor (h e)) r.1 in
      (leb-false n e r.0, s.0, s.1)

module _ (t : Tables) where
  pub trail_decided : TrailNames t ↔ Faultless (parts_of t Trail)
  trail_decided = (there, back)
    where
      h : Heap
      h = heap_of t.heap

      bad : ℕ → Bool
      bad j = misnames h (used t) (get_or t.trail j 0)

      again : ℕ → Bool
      again j = is_in (get_or t.trail j 0) (take j t.trail)

      there : TrailNames t → Faultless (parts_of t Trail)
      there k = (
        (λ j lt.
            or_from (bad j) (again j)
            (names_well h (used t) (get_or t.trail j 0) (each_at (EntryNames h (used t)) t.trail 0 k.1 j lt))
            (apart_earlier t.trail (different_apart t.trail k.0) j lt)),
        tt,
      )

      back : Faultless (parts_of t Trail) → TrailNames t
      back f = (
        apart_different t.trail (earlier_apart t.trail (λ j lt. (or_parts (bad j) (again j) (f.0 j lt)).1)),
        at_each (EntryNames h (used t)) t.trail 0 (λ j lt. well_names h (used t) (get_or t.trail j 0) (or_parts (bad j) (again j) (f.0 j lt)).0),
      )
