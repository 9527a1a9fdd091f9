-- The slip that a bench holds, and how it goes with the structure that is half made.
use Rattle.std.specs.Prelude.{◌≡◌, Bool, true, false, Some, None, Option}
use Rattle.std.specs.declared.option.Option as std
use Rattle.calls.specs.declared.Draft.{Draft}
use Rattle.calls.specs.Refusals.{same_draft}
use Rattle.calls.specs.Steps.{State, draft}
use Rattle.store.specs.declared.store.Slip.{Slip}

abbrev pub slip_of : std.Option Slip → Option Draft
slip_of (Some slip) = Some slip.draft
slip_of None = None

abbrev pub same_slip : Option Draft → Option Draft → Bool
same_slip None None = true
same_slip None (Some b) = false
same_slip (Some a) None = false
same_slip (Some a) (Some b) = same_draft a b

-- the slip is that of the half-made structure, and there is one where a structure is half made
abbrev pub Agrees : State → Option Draft → Type 0
Agrees s slip = same_slip (draft s) slip ≡ true
