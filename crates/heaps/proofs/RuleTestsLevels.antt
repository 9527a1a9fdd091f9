-- Rule 8: the test of choice points decides it.
use Rattle.std.proofs.Common.{◌≡◌, ℕ, ◌+◌, ◌-◌, ◌<◌, Bool, false, ◌||◌, ltb, leb, ◌↔◌, List, take, inl, inr, arith}
use Rattle.std.proofs.lemmas.Bool.{leb-false, lt-leb, ltb-false, le-ltb, cases_lt, and_cases, and_left, and_right, or_parts, or_from}
use Rattle.cells.specs.declared.cell.Cell.{Cell}
use Rattle.tables.specs.Tables.{Choice, Tables}
use Rattle.heaps.specs.declared.rule.Rule.TheVariants.{Levels}
use Rattle.heaps.specs.Lists.{Each}
use Rattle.heaps.specs.Leads.{Heap, heap_of, first, many, LeadsBy}
use Rattle.heaps.specs.Levels.{seen_from}
use Rattle.heaps.specs.Reached.{any_from}
use Rattle.heaps.specs.Rules.{Closed}
use Rattle.heaps.specs.RuleTests.{leads_past, any_of, leaks, oldest, parts_of}
use Rattle.heaps.specs.RuleTestLaws.{Faultless, LevelDecided}
use Rattle.heaps.proofs.RuleTestsBasics.{none_from, from_none, any_none, none_any, each_oldest, oldest_each}

module _ (top i : ℕ) (c : Cell) where
  not_past : ((j : ℕ) → LeadsBy i c j → j < top) → leads_past top i c ≡ false
  not_past f =
      elim (cases_lt 0 (many c)) [
        | inl some ↦
            let l = f (first i c + many c - 1) (omega arith, omega arith) in
            and_right (ltb 0 (many c)) (ltb top (first i c + many c)) (le-ltb top (first i c + many c) (omega arith))
        | inr none ↦ and_left (ltb 0 (many c)) (ltb top (first i c + many c)) (le-ltb 0 (many c) none)
      ]

  past_not : leads_past top i c ≡ false → (j : ℕ) → LeadsBy i c j → j < top
  past_not e j l =
      elim (and_cases (ltb 0 (many c)) (ltb top (first i c + many c)) e) [
        | inl q ↦ let k = ltb-false 0 (many c) q in absurd (omega arith)
        | inr q ↦ let k = ltb-false top (first i c + many c) q in omega arith
      ]

module _ (cells : List Cell) (trail : List ℕ) (c : Choice) where
  abbrev seen : Heap
  seen = heap_of (seen_from c cells trail)

  abbrev past_seen : ℕ → Bool
  past_seen i = leads_past c.heap_top i (seen i)

  abbrev Word : Cell → Type 0
  Word w = (j : ℕ) → LeadsBy 0 w j → j < c.heap_top

  abbrev belows : Bool
  belows = any_from 0 c.heap_top past_seen

  abbrev saveds : Bool
  saveds = any_of (leads_past c.heap_top 0) c.saved

  abbrev olders : Bool
  olders = any_of (leb c.heap_top) (take c.trail_top trail)

  closed_leaks : Closed cells trail c → leaks cells trail c ≡ false
  closed_leaks k =
      or_from belows (saveds || olders)
      (from_none past_seen 0 c.heap_top (λ i a b. not_past c.heap_top i (seen i) (λ j. k.below i j (omega arith))))
      (or_from saveds olders
      (any_none Word (leads_past c.heap_top 0) (λ w. not_past c.heap_top 0 w) c.saved k.saved)
      (any_none (λ e. e < c.heap_top) (leb c.heap_top) (λ e. lt-leb c.heap_top e) (take c.trail_top trail) k.older))

  leaks_closed : leaks cells trail c ≡ false → Closed cells trail c
  leaks_closed e =
      let p = or_parts belows (saveds || olders) e in
      let q = or_parts saveds olders p.1 in
      record {
        below = λ i j lt. past_not c.heap_top i (seen i) (none_from past_seen 0 c.heap_top p.0 i (omega arith) (omega arith)) j;
        saved = none_any Word (leads_past c.heap_top 0) (λ w. past_not c.heap_top 0 w) c.saved q.0;
        older = none_any (λ e. e < c.heap_top) (leb c.heap_top) (λ e. leb-false c.heap_top e) (take c.trail_top trail) q.1;
      }

pub level_decided : LevelDecided
level_decided cells trail c = (leaks_closed cells trail c, closed_leaks cells trail c)

module _ (t : Tables) where
  pub levels_decided : Each (Closed t.heap t.trail) t.choices ↔ Faultless (parts_of t Levels)
  levels_decided = (
    λ k. ((λ p lt. closed_leaks t.heap t.trail (oldest t p) (each_oldest t (Closed t.heap t.trail) k p lt)), tt),
    λ f. oldest_each t (Closed t.heap t.trail) (λ p lt. leaks_closed t.heap t.trail (oldest t p) (f.0 p lt)),
  )
