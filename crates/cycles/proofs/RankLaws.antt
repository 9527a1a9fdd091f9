-- Ranks that never fall along a lead show that no cell before c lies on a cycle, where the cells before c lead only to higher ranks.
use Rattle.std.proofs.Common.{◌≡◌, ℕ, ◌+◌, ◌<◌, ◌≤◌, true, false, ◌⊎◌, List, length, Option, Some, None, MatchOption, sym, refl, ap, ◌∙◌, subst, inl, inr, arith}
use Rattle.std.proofs.lemmas.Bool.{both_ways, cases_lt, eq-eqb}
use Rattle.cells.specs.declared.cell.Cell.{Cell}
use Rattle.tables.specs.Tables.{Tables, used}
use Rattle.heaps.specs.Leads.{Heap, heap_of, refers_to, unbound, Leads, Way, step, more}
use Rattle.heaps.specs.RuleTests.{on_cycle}
use Rattle.heaps.proofs.RuleTestsBasics.{not_so}
use Rattle.heaps.proofs.RuleTestsCycles.{cycle_decided}
use Rattle.heaps.proofs.UnbindLaws.{heap_of_past}
use Rattle.cycles.specs.Spans.{NoneBelow, RisesBefore, NoneFalls}

-- A cell that is not in use leads nowhere.
pub past_unbound : (cells : List Cell) (i : ℕ) → length cells ≤ i → unbound (heap_of cells) i ≡ true
past_unbound cells i le = ap (refers_to i) (heap_of_past cells i le) ∙ eq-eqb i i refl

pub bound_inside : (cells : List Cell) (i : ℕ) → unbound (heap_of cells) i ≡ false → i < length cells
bound_inside cells i u =
    elim (cases_lt i (length cells)) [
      | inl lt ↦ lt
      | inr le ↦ absurd (both_ways (unbound (heap_of cells) i) u (past_unbound cells i le))
    ]

pub start_bound : (h : Heap) {i j : ℕ} → Way h i j → unbound h i ≡ false
start_bound h (step l) = l.1
start_bound h (more l w) = l.1

module _ (cells : List Cell) (rank : ℕ → ℕ) where
  abbrev h : Heap
  h = heap_of cells

  abbrev n : ℕ
  n = length cells

  way_rises : NoneFalls h n rank → {i k : ℕ} → k < n → Way h i k → rank i ≤ rank k
  way_rises f {i} {k} lt (step l) = f i (bound_inside cells i l.1) k l lt
  way_rises f {i} {k} lt (more {j = j} l w) =
      let a = f i (bound_inside cells i l.1) j l (bound_inside cells j (start_bound h w)) in
      let b = way_rises f lt w in omega arith

  pub off_cycle : (c : ℕ) → NoneFalls h n rank → RisesBefore h n rank c → (i : ℕ) → i < c → Way h i i → ⊥
  off_cycle c f r i lt w = by i refl w
    where
      by : (k : ℕ) → k ≡ i → Way h i k → ⊥
      by k e (step l) =
          let a = r i lt k l (subst (λ (x : ℕ). x < n) (sym e) (bound_inside cells i l.1)) in
          let b = ap rank e in omega arith
      by k e (more {j = j} l v) =
          let inside : k < n = subst (λ (x : ℕ). x < n) (sym e) (bound_inside cells i l.1) in
          let a = r i lt j l (bound_inside cells j (start_bound h v)) in
          let b = way_rises f inside v in
          let q = ap rank e in omega arith

  -- where all cells lead only to higher ranks, none falls
  pub rises_falls : RisesBefore h n rank n → NoneFalls h n rank
  rises_falls r i lt j l in_use = let a = r i lt j l in_use in omega arith

-- The same as tests of places.
pub none_before : (t : Tables) (rank : ℕ → ℕ) (c : ℕ) → NoneFalls (heap_of t.heap) (used t) rank → RisesBefore (heap_of t.heap) (used t) rank c
    → (i : ℕ) → i < c → on_cycle (heap_of t.heap) (used t) i ≡ false
none_before t rank c f r i lt = not_so (on_cycle (heap_of t.heap) (used t) i) (λ e. off_cycle t.heap rank c f r i lt ((cycle_decided t i).0 e))

pub way_before : (h : Heap) {i j k : ℕ} → Leads h i j → (j ≡ k) ⊎ Way h j k → Way h i k
way_before h {i} l (inl e) = subst (λ (x : ℕ). Way h i x) e (step l)
way_before h l (inr w) = more l w

-- The first cell that leads to a cell of its own rank or of a lower one, as a search of the first m cells finds it.
pub first_rises : (h : Heap) (n : ℕ) (rank : ℕ → ℕ) (m : ℕ) → m ≡ n → (o : Option ℕ)
    → MatchOption o ((k : ℕ) → 0 ≤ k → k < m → NoneBelow h n rank k (rank k + 1)) (λ i. (0 ≤ i) × (i < m) × Unit {0} × ((k : ℕ) → 0 ≤ k → k < i → NoneBelow h n rank k (rank k + 1)))
    → MatchOption o (RisesBefore h n rank n) (λ i. (i < n) × RisesBefore h n rank i)
first_rises h n rank m e None f = λ i lt j l k. let a = f i (omega arith) (omega arith) j l k in omega arith
first_rises h n rank m e (Some i) f = (omega (arith, f.1), λ k lt j l q. let a = f.3 k (omega arith) lt j l q in omega arith)
