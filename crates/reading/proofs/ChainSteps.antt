-- The chain that a word begins, step by step.
use mathlib.Core.Path.{◌≡◌, ap, ◌∙◌, sym, subst}
use mathlib.Core.Bool.{false}
use Prim.Native.Nat.{ℕ, ◌<◌}
use native.Mathlib.Omega.{arith}
use Rattle.cells.specs.declared.cell.Cell.{Cell}
use Rattle.cells.specs.declared.cell.Cell.TheVariants.{Reference}
use Rattle.tables.specs.Tables.{Tables, used, cell_at}
use Rattle.heaps.specs.Leads.{heap_of, refers_to}
use Rattle.heaps.specs.Ends.{end, steps_to_end}
use Rattle.heaps.specs.LevelLaws.{Stands, Keeps}
use Rattle.heaps.proofs.Sound.{rules_sound, cell_keeps}
use Rattle.heaps.proofs.KeptWords.{cell_ranged}
use Rattle.heaps.proofs.EndLaws.{end_step}

module _ (t : Tables) (stands : Stands t) where
  -- the word in the cell that a word of the chain refers to
  pub next_keeps : (n : ℕ) → Keeps t (Reference n) → Keeps t (cell_at t n)
  next_keeps n k = (cell_keeps (heap_of t.heap) (used t) (rules_sound t stands.0) n k.0.0 k.0.1, cell_ranged t stands.1 n k.0.0)

  module _ (n : ℕ) (at next : Cell) (is : at ≡ Reference n) (holds : next ≡ cell_at t n) where
    pub chain_steps : refers_to n next ≡ false → (end t next ≡ end t at) × (steps_to_end t next < steps_to_end t at)
    chain_steps bound =
        let law = end_step t stands.0 n (sym (ap (refers_to n) holds) ∙ bound) in
        let less : steps_to_end t (cell_at t n) < steps_to_end t (Reference n) = omega (arith, law.1) in (
          ap (end t) holds ∙ sym law.0 ∙ ap (end t) (sym is),
          subst (λ (c : Cell). steps_to_end t next < steps_to_end t c) (sym is) (subst (λ (c : Cell). steps_to_end t c < steps_to_end t (Reference n)) (sym holds) less),
        )

    pub chain_keeps : Keeps t at → Keeps t next
    chain_keeps k = subst (Keeps t) (sym holds) (next_keeps n (subst (Keeps t) is k))
