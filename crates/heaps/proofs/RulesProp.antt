-- Tables keep the rules and fit the memory in at most one way, so a field without content may hold this fact, and gives it back.
use Rattle.std.proofs.Common.{ℕ, List, [], ◌∷◌}
use mathlib.Core.Bool.{Bool-set}
use mathlib.Core.Logic.{∥∥₁_elim}
use mathlib.Core.HLevel.{Π_prop, ×_prop, ×₃_prop, Unit-prop, ⊥_prop}
use native.Mathlib.Nat.{ℕ_set}
use native.Mathlib.Bridge.{le_prop}
use Rattle.cells.specs.declared.cell.Cell.{Cell}
use Rattle.cells.specs.declared.cell.Cell.TheVariants.{Reference, Pointer, Functor, Atom, Integer}
use Rattle.tables.specs.Tables.{Choice, Tables}
use Rattle.heaps.specs.Lists.{Different}
use Rattle.heaps.specs.Leads.{Heap}
use Rattle.heaps.specs.Rules.{WordKeeps, TopsFall, Closed, Closed-prop, Rules, Rules-prop, Fits, Fits-prop}
use Rattle.heaps.specs.LevelLaws.{Stands}
use Rattle.heaps.proofs.EachLaws.{each_prop}

different_prop : (xs : List ℕ) → IsProp (Different xs)
different_prop [] = Unit-prop
different_prop (x ∷ xs) = ×_prop (Bool-set _ _) (different_prop xs)

pub word_prop : (h : Heap) (n : ℕ) (c : Cell) → IsProp (WordKeeps h n c)
word_prop h n (Reference m) = ×_prop le_prop (Bool-set _ _)
word_prop h n (Pointer m) = ×_prop le_prop (Bool-set _ _)
word_prop h n (Functor name arity) = ⊥_prop
word_prop h n (Atom a) = Unit-prop
word_prop h n (Integer z) = Unit-prop

tops_prop : (n k : ℕ) (cs : List Choice) → IsProp (TopsFall n k cs)
tops_prop n k [] = Unit-prop
tops_prop n k (c ∷ cs) = ×₃_prop le_prop le_prop (tops_prop c.heap_top c.trail_top cs)

closed_prop : (cells : List Cell) (trail : List ℕ) (c : Choice) → IsProp (Closed cells trail c)
closed_prop cells trail c = Closed-prop
    (Π_prop λ i. Π_prop λ j. Π_prop λ l. Π_prop λ e. le_prop)
    (each_prop _ (λ w. Π_prop λ j. Π_prop λ e. le_prop) c.saved)
    (each_prop _ (λ e. le_prop) _)

pub rules_prop : (t : Tables) → IsProp (Rules t)
rules_prop t = Rules-prop
    (Π_prop λ i. Π_prop λ m. Π_prop λ l. Π_prop λ e. ×_prop le_prop (Bool-set _ _))
    (Π_prop λ i. Π_prop λ m. Π_prop λ l. Π_prop λ e. ×_prop le_prop (Bool-set _ _))
    (Π_prop λ i. Π_prop λ f. Π_prop λ a. Π_prop λ j. Π_prop λ l. Π_prop λ e. Π_prop λ p. Π_prop λ q. ×_prop le_prop (Bool-set _ _))
    (×_prop (each_prop _ (word_prop _ _) t.registers) (each_prop _ (λ c. each_prop _ (word_prop _ _) c.saved) t.choices))
    (×_prop (different_prop t.trail) (each_prop _ (λ e. ×₃_prop le_prop (Bool-set _ _) (Bool-set _ _)) t.trail))
    (tops_prop _ _ t.choices)
    (Π_prop λ i. Π_prop λ w. ⊥_prop)
    (each_prop _ (closed_prop _ _) t.choices)

pub fits_prop : (t : Tables) → IsProp (Fits t)
fits_prop t = Fits-prop le_prop le_prop le_prop (ℕ_set _ _)
    (each_prop _ (λ c. ℕ_set _ _) t.choices)
    (each_prop _ (λ c. Bool-set _ _) t.heap)
    (each_prop _ (λ c. Bool-set _ _) t.registers)
    (each_prop _ (λ p. each_prop _ (λ c. Bool-set _ _) p.saved) t.choices)

pub rules_of : (t : Tables) → ∥ Stands t ∥₁ → Stands t
rules_of t h = ∥∥₁_elim h (×_prop (rules_prop t) (fits_prop t)) (λ s. s)
