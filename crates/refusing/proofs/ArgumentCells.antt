-- The argument cells of the structure that a register ends at.
use Rattle.std.proofs.Common.{◌≡◌, ℕ, ◌<◌, ap, arith, Some, None}
use Rattle.std.proofs.lemmas.List.{get_or_past}
use Rattle.cells.specs.declared.cell.Cell.{Cell}
use Rattle.cells.specs.declared.cell.Cell.TheVariants.{Atom}
use Rattle.tables.specs.Tables.{Tables, cell_at, register}
use Rattle.heaps.specs.Ends.{end}
use Rattle.heaps.specs.LevelLaws.{Stands, Keeps}
use Rattle.heaps.proofs.KeptWords.{keeps_register}
use Rattle.heaps.proofs.EndLaws.{end_keeps}
use Rattle.calls.specs.Steps.{argument, argument_of}
use Rattle.calls.proofs.KeepCalls.{argument_keeps}

pub argument_none : (t : Tables) (s i : ℕ) → Stands t → 7 < s → argument t s i ≡ None
argument_none t s i stands h = ap (λ (w : Cell). argument_of t (end t w) i) (get_or_past t.registers s (Atom 0) (omega (arith, stands.1.registers)))

pub argument_word : (t : Tables) → Stands t → (s i n : ℕ) → argument t s i ≡ Some n → Keeps t (cell_at t n)
argument_word t stands s i n e =
    argument_keeps t stands (end t (register t s)) (end_keeps t stands.0 (register t s) (keeps_register t s stands).0) i n e
