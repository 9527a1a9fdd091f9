-- Gathering the cells that lead to a cell, round by round: as many rounds as there are cells find them all,
-- and so does a round that adds nothing. A cell lies on a cycle exactly where it leads to one of those that lead to it.
use Rattle.std.proofs.Common.{◌≡◌, ℕ, zero, suc, ◌+◌, ◌<◌, Bool, true, false, not, ◌||◌, eqb, ◌⊎◌, List, length, sym, refl, ap, ◌∙◌, subst, inl, inr, arith}
use Rattle.std.proofs.lemmas.Bool.{both_ways, cases_eq, cases_Bool, eqb-true, eq-eqb, or_cases, or_left, or_right, and_parts, not-true}
use Rattle.cells.specs.declared.cell.Cell.{Cell}
use Rattle.tables.specs.Tables.{Tables, used}
use Rattle.marks.specs.Sets.{with_cell}
use Rattle.marks.proofs.Sets.{with_below}
use Rattle.heaps.specs.Leads.{Heap, heap_of, first, many, unbound, Leads, Way}
use Rattle.heaps.specs.Reached.{any_from, within}
use Rattle.heaps.specs.RuleTests.{on_cycle}
use Rattle.heaps.proofs.RuleTestsBasics.{not_so, some_from}
use Rattle.heaps.proofs.RuleTestsCycles.{unbound_self, cycle_decided}
use Rattle.cycles.specs.Spans.{LeadTo, HasWithin, LeadsInto, LeadsPast, Round}
use Rattle.cycles.proofs.RankLaws.{bound_inside, start_bound, way_before}

-- One round, cell by cell.
module _ (h : Heap) (n : ℕ) where
  pub round_skip : (m : ℕ) (s u : ℕ → Bool) → Round h m n s u → (u m ≡ true) ⊎ LeadsPast h n m u → Round h (m + 1) n s u
  round_skip m s u r f =
      record {
        kept = r.kept;
        added = λ i j lt l k e. elim (cases_eq i m) [
          | inl q ↦ here i j q l k e f
          | inr q ↦ r.added i j (omega arith) l k e
        ];
        sound = r.sound;
      }
    where
      here : (i j : ℕ) → i ≡ m → Leads h i j → j < n → s j ≡ true → (u m ≡ true) ⊎ LeadsPast h n m u → u i ≡ true
      here i j q l k e (inl t) = ap u q ∙ t
      here i j q l k e (inr p) = absurd (both_ways (u j) (p j (subst (λ (x : ℕ). Leads h x j) q l) k) (r.kept j e))

  pub round_mark : (m : ℕ) → m < 4096 → (s u t : ℕ → Bool) → t ≡ with_cell u m → Round h m n s u → LeadsInto h m u → Round h (m + 1) n s t
  round_mark m cell s u t is r f =
      record {
        kept = λ i e. old i (r.kept i e);
        added = λ i j lt l k e. elim (cases_eq i m) [
          | inl q ↦ told i ∙ or_left (eqb i m) (u i) (eq-eqb i m q)
          | inr q ↦ old i (r.added i j (omega arith) l k e)
        ];
        sound = λ k g i e. elim (or_cases (eqb i m) (u i) (sym (told i) ∙ e)) [
          | inl q ↦ inr (subst (λ (x : ℕ). Way h x k) (sym (eqb-true i m q)) (way_before h f.1.0 (r.sound k g f.0 f.1.1)))
          | inr q ↦ r.sound k g i q
        ];
      }
    where
      told : (i : ℕ) → t i ≡ (eqb i m || u i)
      told i = ap (λ (v : ℕ → Bool). v i) (is ∙ with_below u m cell)

      old : (i : ℕ) → u i ≡ true → t i ≡ true
      old i e = told i ∙ or_right (eqb i m) (u i) e

within_self : (g : ℕ) (h : Heap) (k : ℕ) → within g h k k ≡ true
within_self zero h k = eq-eqb k k refl
within_self (suc g) h k = or_left (eqb k k) (any_from (first k (h k)) (many (h k)) (λ j. within g h j k)) (eq-eqb k k refl)

-- Round after round.
module _ (cells : List Cell) (k : ℕ) (inside : k < length cells) where
  member_inside : (s : ℕ → Bool) → LeadTo (heap_of cells) k s → (j : ℕ) → s j ≡ true → j < length cells
  member_inside s f j e =
      elim (f j e) [
        | inl q ↦ subst (λ (x : ℕ). x < length cells) (sym q) inside
        | inr w ↦ bound_inside cells j (start_bound (heap_of cells) w)
      ]

  pub within_more : (g : ℕ) (s t : ℕ → Bool) → LeadTo (heap_of cells) k s → HasWithin (heap_of cells) k g s
      → Round (heap_of cells) (length cells) (length cells) s t → HasWithin (heap_of cells) k (suc g) t
  within_more g s t f w r i e =
      elim (or_cases (eqb i k) (any_from (first i (heap_of cells i)) (many (heap_of cells i)) (λ j. within g (heap_of cells) j k)) e) [
        | inl q ↦ r.kept i (subst (λ (x : ℕ). s x ≡ true) (sym (eqb-true i k q)) (w k (within_self g (heap_of cells) k)))
        | inr q ↦
            let p = some_from (λ j. within g (heap_of cells) j k) (first i (heap_of cells i)) (many (heap_of cells i)) q in
            elim (cases_Bool (unbound (heap_of cells) i)) [
              | inl u ↦ r.kept i (subst (λ (x : ℕ). s x ≡ true) (unbound_self i (heap_of cells i) p.0 u (p.1, p.2)) (w p.0 p.3))
              | inr u ↦
                  let member = w p.0 p.3 in
                  r.added i p.0 (bound_inside cells i u) ((p.1, p.2), u) (member_inside s f p.0 member) member
            ]
      ]

  -- A round that adds nothing is the last.
  pub within_all : (g : ℕ) (s : ℕ → Bool) → LeadTo (heap_of cells) k s → HasWithin (heap_of cells) k g s
      → Round (heap_of cells) (length cells) (length cells) s s → (d : ℕ) → HasWithin (heap_of cells) k d s
  within_all g s f w r zero i e = subst (λ (x : ℕ). s x ≡ true) (sym (eqb-true i k e)) (w k (within_self g (heap_of cells) k))
  within_all g s f w r (suc d) i e = within_more d s s f (within_all g s f w r d) r i e

  -- The cell itself is the first member.
  pub gather_first : (none s t : ℕ → Bool) → ((i : ℕ) → none i ≡ false) → k < 4096 → s ≡ none → t ≡ with_cell s k
      → LeadTo (heap_of cells) k t × HasWithin (heap_of cells) k 0 t
  gather_first none s t f cell a b = (
    λ i e. elim (or_cases (eqb i k) (s i) (sym (told i) ∙ e)) [
      | inl q ↦ inl (eqb-true i k q)
      | inr q ↦ absurd (both_ways (s i) (ap (λ (v : ℕ → Bool). v i) a ∙ f i) q)
    ],
    λ i e. told i ∙ or_left (eqb i k) (s i) e,
  )
    where
      told : (i : ℕ) → t i ≡ (eqb i k || s i)
      told i = ap (λ (v : ℕ → Bool). v i) (b ∙ with_below s k cell)

-- A cell on a cycle leads to one of the cells that lead to it.
module _ (t : Tables) (i : ℕ) (inside : i < used t) (s : ℕ → Bool) where
  pub cycle_told : LeadTo (heap_of t.heap) i s → HasWithin (heap_of t.heap) i (used t) s → (r : Bool)
      → (r ≡ true → LeadsInto (heap_of t.heap) i s) → (r ≡ false → LeadsPast (heap_of t.heap) (used t) i s)
      → r ≡ on_cycle (heap_of t.heap) (used t) i
  cycle_told f w true found missed =
      let p = found refl in
      sym ((cycle_decided t i).1 (way_before (heap_of t.heap) p.1.0 (f p.0 p.1.1)))
  cycle_told f w false found missed = sym (not_so (on_cycle (heap_of t.heap) (used t) i) not_on)
    where
      not_on : on_cycle (heap_of t.heap) (used t) i ≡ true → ⊥
      not_on e =
          let a = and_parts (not (unbound (heap_of t.heap) i)) (any_from (first i (heap_of t.heap i)) (many (heap_of t.heap i)) (λ j. within (used t) (heap_of t.heap) j i)) e in
          let p = some_from (λ j. within (used t) (heap_of t.heap) j i) (first i (heap_of t.heap i)) (many (heap_of t.heap i)) a.1 in
          let member = w p.0 p.3 in
          both_ways (s p.0)
          (missed refl p.0 ((p.1, p.2), not-true (unbound (heap_of t.heap) i) a.0) (member_inside t.heap i inside s f p.0 member)) member
