-- Rule 7: a cell that lies on a cycle comes back to itself in no more steps than there are cells, so the test decides it.
use Rattle.std.proofs.Common.{◌≡◌, ℕ, zero, suc, ◌<◌, ◌≤◌, Bool, true, false, not, ◌&&◌, eqb, ltb, ◌⊎◌, ◌↔◌, List, length, sym, refl, ap, ◌∙◌, subst, inl, inr, arith}
use Rattle.std.proofs.lemmas.List.{get_or_past}
use Rattle.std.proofs.lemmas.Bool.{both_ways, cases_lt, cases_eq, cases_Bool, eqb-true, eq-eqb, ltb-true, lt-ltb, and_parts, and_from, or_cases, or_left, or_right, not-true, not_from_false}
use Rattle.cells.specs.declared.cell.Cell.{Cell}
use Rattle.cells.specs.declared.cell.Cell.TheVariants.{Reference, Pointer, Functor, Atom, Integer}
use Rattle.tables.specs.Tables.{Tables, used}
use Rattle.marks.specs.Sets.{count_below}
use Rattle.heaps.specs.declared.rule.Rule.TheVariants.{Cycles}
use Rattle.heaps.specs.Leads.{Heap, heap_of, first, many, LeadsBy, refers_to, unbound, Leads, Way, step, more, Acyclic}
use Rattle.heaps.specs.Reached.{any_from, within}
use Rattle.heaps.specs.RuleTests.{on_cycle, parts_of}
use Rattle.heaps.specs.RuleTestLaws.{Faultless, CycleDecided}
use Rattle.heaps.proofs.RuleTestsCounts.{without, without_other, count_without, count_most}
use Rattle.heaps.proofs.RuleTestsBasics.{not_so, some_from, from_some}

pub unbound_self : (i : ℕ) (c : Cell) (j : ℕ) → refers_to i c ≡ true → LeadsBy i c j → j ≡ i
unbound_self i (Reference m) j e l = let q = eqb-true m i e in omega arith
unbound_self i (Pointer m) j e l = absurd (both_ways false refl e)
unbound_self i (Functor name arity) j e l = absurd (both_ways false refl e)
unbound_self i (Atom a) j e l = absurd (both_ways false refl e)
unbound_self i (Integer z) j e l = absurd (both_ways false refl e)

module _ (h : Heap) where
  -- The test is right: what comes back within some steps is a way.
  within_way : (g i k : ℕ) → within g h i k ≡ true → (i ≡ k) ⊎ Way h i k
  within_way zero i k e = inl (eqb-true i k e)
  within_way (suc g) i k e =
      elim (or_cases (eqb i k) (any_from (first i (h i)) (many (h i)) (λ j. within g h j k)) e) [
        | inl q ↦ inl (eqb-true i k q)
        | inr q ↦
            let r = some_from (λ j. within g h j k) (first i (h i)) (many (h i)) q in
            next r.0 (r.1, r.2) (within_way g r.0 k r.3)
      ]
    where
      next : (j : ℕ) → LeadsBy i (h i) j → (j ≡ k) ⊎ Way h j k → (i ≡ k) ⊎ Way h i k
      next j l w =
          elim (cases_Bool (unbound h i)) [
            | inl u ↦ subst (λ (x : ℕ). (x ≡ k) ⊎ Way h x k) (unbound_self i (h i) j u l) w
            | inr u ↦ elim w [
              | inl q ↦ inr (subst (λ (x : ℕ). Way h i x) q (step (l, u)))
              | inr v ↦ inr (more (l, u) v)
            ]
          ]

  cycle_way : (n i : ℕ) → on_cycle h n i ≡ true → Way h i i
  cycle_way n i e =
      let p = and_parts (not (unbound h i)) (any_from (first i (h i)) (many (h i)) (λ j. within n h j i)) e in
      let u = not-true (unbound h i) p.0 in
      let r = some_from (λ j. within n h j i) (first i (h i)) (many (h i)) p.1 in
      elim (within_way n r.0 i r.3) [
        | inl q ↦ step (subst (λ (x : ℕ). LeadsBy i (h i) x) q (r.1, r.2), u)
        | inr w ↦ more ((r.1, r.2), u) w
      ]

  -- a way of no, one or more steps to k through cells of the set s
  data Road (s : ℕ → Bool) (k : ℕ) : ℕ → Type 0 where
    end : s k ≡ true → Road s k k
    on : {i j : ℕ} → s i ≡ true → Leads h i j → Road s k j → Road s k i

  start_in : {s : ℕ → Bool} {k i : ℕ} → Road s k i → s i ≡ true
  start_in (end e) = e
  start_in (on e l r) = e

  -- From the last visit to x on, a road does not meet x again.
  abbrev Leaves : (ℕ → Bool) → ℕ → ℕ → ℕ → Type 0
  Leaves s k j x = (x ≡ k) ⊎ (Road (without s x) k j ⊎ ((i : ℕ) × Leads h x i × Road (without s x) k i))

  without_in : (s : ℕ → Bool) (x j : ℕ) → (j ≡ x → ⊥) → s j ≡ true → without s x j ≡ true
  without_in s x j f e = without_other s x j f ∙ e

  leaves : (s : ℕ → Bool) (k x : ℕ) {j : ℕ} → Road s k j → Leaves s k j x
  leaves s k x (end e) =
      elim (cases_eq k x) [
        | inl q ↦ inl (sym q)
        | inr q ↦ inr (inl (end (without_in s x k q e)))
      ]
  leaves s k x (on {i = i} {j = j} e l r) = next (leaves s k x r)
    where
      next : Leaves s k j x → Leaves s k i x
      next (inl q) = inl q
      next (inr (inr v)) = inr (inr v)
      next (inr (inl w)) =
          elim (cases_eq i x) [
            | inl q ↦ inr (inr (j, subst (λ (y : ℕ). Leads h y j) q l, w))
            | inr q ↦ inr (inl (on (without_in s x i q e) l w))
          ]

  -- A road through cells of the set s needs no more steps than s has members.
  road_within : (n g : ℕ) (s : ℕ → Bool) → ((i : ℕ) → s i ≡ true → i < n) → count_below s n ≤ g
      → (j k : ℕ) → Road s k j → within g h j k ≡ true
  road_within n zero s below le j k r = let c = count_without s j n (below j (start_in r)) (start_in r) in absurd (omega arith)
  road_within n (suc g) s below le j k r =
      let c = count_without s j n (below j (start_in r)) (start_in r) in
      next (leaves s k j r) (road_within n g (without s j) (λ i e. below i (and_parts (not (eqb i j)) (s i) e).1) (omega arith))
    where
      next : Leaves s k j j → ((i m : ℕ) → Road (without s j) m i → within g h i m ≡ true) → within (suc g) h j k ≡ true
      next (inl q) f = or_left (eqb j k) (any_from (first j (h j)) (many (h j)) (λ i. within g h i k)) (eq-eqb j k q)
      next (inr (inl w)) f = absurd (both_ways (without s j j) (ap (λ (b : Bool). not b && s j) (eq-eqb j j refl)) (start_in w))
      next (inr (inr v)) f =
          or_right (eqb j k) (any_from (first j (h j)) (many (h j)) (λ i. within g h i k))
          (from_some (λ i. within g h i k) (first j (h j)) (many (h j)) v.0 v.1.0.0 v.1.0.1 (f v.0 k v.2))

  -- Where only cells below n are bound, the test misses no cycle.
  module _ (n : ℕ) (below : (i : ℕ) → unbound h i ≡ false → i < n) where
    abbrev in_use : ℕ → Bool
    in_use i = ltb i n

    bound_in_lem : (i : ℕ) → unbound h i ≡ false → in_use i ≡ true
    bound_in_lem i u = lt-ltb i n (below i u)

    way_road : {i k : ℕ} → in_use k ≡ true → Way h i k → Road in_use k i
    way_road {i} e (step l) = on (bound_in_lem i l.1) l (end e)
    way_road {i} e (more l w) = on (bound_in_lem i l.1) l (way_road e w)

    road_cycle : (i j : ℕ) → Leads h i j → Road in_use i j → on_cycle h n i ≡ true
    road_cycle i j l r =
        and_from (not (unbound h i)) (any_from (first i (h i)) (many (h i)) (λ j. within n h j i)) (not_from_false (unbound h i) l.1)
        (from_some (λ j. within n h j i) (first i (h i)) (many (h i)) j l.0.0 l.0.1
        (road_within n n in_use (λ k e. ltb-true k n e) (count_most in_use n) j i r))

    way_cycle : (i k : ℕ) → i ≡ k → Way h i k → on_cycle h n i ≡ true
    way_cycle i k q (step l) = road_cycle i k l (subst (λ (x : ℕ). Road in_use x k) (sym q) (end (subst (λ (x : ℕ). in_use x ≡ true) q (bound_in_lem i l.1))))
    way_cycle i k q (more {j = j} l w) =
        road_cycle i j l (subst (λ (x : ℕ). Road in_use x j) (sym q) (way_road (subst (λ (x : ℕ). in_use x ≡ true) q (bound_in_lem i l.1)) w))

bound_used : (cells : List Cell) (i : ℕ) → unbound (heap_of cells) i ≡ false → i < length cells
bound_used cells i u =
    elim (cases_lt i (length cells)) [
      | inl lt ↦ lt
      | inr le ↦
          let e : unbound (heap_of cells) i ≡ true = ap (refers_to i) (get_or_past cells i (Reference i) le) ∙ eq-eqb i i refl in
          absurd (both_ways (unbound (heap_of cells) i) u e)
    ]

pub cycle_decided : CycleDecided
cycle_decided t i = (cycle_way (heap_of t.heap) (used t) i, way_cycle (heap_of t.heap) (used t) (bound_used t.heap) i i refl)

-- A cell on a cycle is bound, so it is in use.
cycle_used : (t : Tables) (i : ℕ) → on_cycle (heap_of t.heap) (used t) i ≡ true → i < used t
cycle_used t i e =
    bound_used t.heap i (not-true (unbound h i)
    (and_parts (not (unbound h i)) (any_from (first i (h i)) (many (h i)) (λ j. within (used t) h j i)) e).0)
  where
    h : Heap
    h = heap_of t.heap

module _ (t : Tables) where
  pub cycles_decided : Acyclic (heap_of t.heap) ↔ Faultless (parts_of t Cycles)
  cycles_decided = (
    λ a. ((λ i lt. not_so (on_cycle (heap_of t.heap) (used t) i) (λ e. a i ((cycle_decided t i).0 e))), tt),
    λ f i w.
        let e = (cycle_decided t i).1 w in
        both_ways (on_cycle (heap_of t.heap) (used t) i) (f.0 i (cycle_used t i e)) e,
  )
