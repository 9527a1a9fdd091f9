-- A state is whole in at most one way, so a field without content may hold this fact, and gives it back.
use Rattle.std.proofs.Common.{◌≡◌, ℕ, suc, ◌≤◌, ◌⊎◌, List, [], ◌∷◌, ap, subst, inl, inr, arith, Option, Some, None}
use mathlib.Core.Bool.{Bool-set}
use mathlib.Core.Logic.{∥∥₁_elim}
use mathlib.Core.HLevel.{×_prop, Unit-prop}
use native.Mathlib.Nat.{ℕ_set}
use native.Mathlib.Bridge.{le_prop}
use Rattle.std.proofs.lemmas.List.{length-take}
use Rattle.cells.specs.declared.cell.Cell.{Cell}
use Rattle.cells.specs.declared.cell.Cell.TheVariants.{Reference}
use Rattle.tables.specs.Tables.{Tables, used}
use Rattle.heaps.specs.Leads.{heap_of}
use Rattle.heaps.specs.Rules.{WordKeeps}
use Rattle.heaps.specs.LevelLaws.{Stands, Keeps, ArgumentsKeep}
use Rattle.heaps.proofs.RulesProp.{word_prop, rules_prop, fits_prop}
use Rattle.calls.specs.Steps.{Half, State}
use Rattle.calls.specs.Whole.{without, HalfStands, HalfStands-prop, WholeWith, Whole}
use Rattle.calls.proofs.CellSet.{cell_set, cells_set}

stands_prop : (t : Tables) → IsProp (Stands t)
stands_prop t = ×_prop (rules_prop t) (fits_prop t)

-- No word that may stand in a register refers to a cell that is not in use.
argument_prop : (t : Tables) (i : ℕ) (w : Cell) → used t ≤ i → IsProp (Keeps t w ⊎ (w ≡ Reference i))
argument_prop t i w le (inl k) (inl l) = ap inl (×_prop (word_prop (heap_of t.heap) (used t) w) (Bool-set _ _) k l)
argument_prop t i w le (inl k) (inr e) = absurd (let a = (subst (WordKeeps (heap_of t.heap) (used t)) e k.0).0 in omega arith)
argument_prop t i w le (inr e) (inl k) = absurd (let a = (subst (WordKeeps (heap_of t.heap) (used t)) e k.0).0 in omega arith)
argument_prop t i w le (inr e) (inr f) = ap inr (cell_set w (Reference i) e f)

arguments_prop : (t : Tables) (i : ℕ) (ws : List Cell) → used t ≤ i → IsProp (ArgumentsKeep t i ws)
arguments_prop t i [] le = Unit-prop
arguments_prop t i (w ∷ ws) le = ×_prop (argument_prop t i w le) (arguments_prop t (suc i) ws (omega arith))

half_prop : (t : Tables) (h : Half) → IsProp (HalfStands t h)
half_prop t h = HalfStands-prop (Bool-set _ _) (Bool-set _ _) (ℕ_set _ _) le_prop le_prop (stands_prop (without t h))
    (arguments_prop (without t h) (suc h.at) _ (let a = length-take h.at t.heap in omega arith)) (cells_set _ _)

whole_prop : (t : Tables) (o : Option Half) → IsProp (WholeWith t o)
whole_prop t None = stands_prop t
whole_prop t (Some h) = half_prop t h

pub whole_of : (s : State) → ∥ Whole s ∥₁ → Whole s
whole_of s h = ∥∥₁_elim h (whole_prop s.tables s.half) (λ w. w)
