-- What is to be shown of a call that neither side refuses: the answers compare, and the states agree afterwards.
use Rattle.std.proofs.Common.{ℕ, List, Some, None}
use Rattle.tables.specs.Tables.{Tables}
use Rattle.calls.specs.declared.Call.{Call}
use Rattle.calls.specs.Steps as Store
use Rattle.calls.specs.Steps.{State, Half}
use Rattle.machine.specs.Machine as Tree
use Rattle.machine.specs.Machine.{Level, Begun, Machine}
use Rattle.machine.specs.Runs.{Compared}
use Rattle.machine.proofs.Related.{Relates}

abbrev pub Acted : Call → Tables → State → Machine → Type 0
Acted c left s m = Compared (Store.act c left s).0 (Tree.act c m).0 × Relates (Store.act c left s).1 (Tree.act c m).1

-- without a half-made structure
abbrev pub idle : Tables → State
idle t = record { tables = t; half = None }

abbrev pub machine : ℕ → Level → List Level → Machine
machine n now saved = record { next = n; now = now; saved = saved; half = None }

-- with one
abbrev pub making : Tables → Half → State
making t h = record { tables = t; half = Some h }

abbrev pub maker : ℕ → Level → List Level → Begun → Machine
maker n now saved b = record { next = n; now = now; saved = saved; half = Some b }
