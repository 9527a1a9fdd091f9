-- The refusal with which a call is met.
use Rattle.std.specs.Prelude.{◌+◌, Bool, cond, nat_lt, Option, Some, None}
use Rattle.cells.specs.declared.refusal.Refusal.{Refusal}
use Rattle.cells.specs.declared.refusal.Refusal.TheVariants.{NoCells}
use Rattle.tables.specs.Tables.{used}
use Rattle.calls.specs.declared.Call.{Call}
use Rattle.calls.specs.Refusals.{cells_needed}
use Rattle.calls.specs.Steps.{State, refusal_of}

-- the refusal of the other tests comes first; want of cells is tested last
abbrev pub or_full : Option Refusal → Bool → Option Refusal
or_full (Some why) full = Some why
or_full None full = cond full (Some NoCells) None

abbrev pub refusal_for : Call → State → Option Refusal
refusal_for c s = or_full (refusal_of c s) (nat_lt 4096 (used s.tables + cells_needed c))
