use Rattle.std.proofs.Common.{refl}
use Rattle.cycles.proofs.BlankNotes.{blank_notes}
use Rattle.cycles.proofs.walk.Walk.clear.Goals as goal

pub returns : goal.returns
returns c =
    let e = c.default-self.ensures in
    record { notes = blank_notes e.0 e.1.0 e.1.1.0 e.1.1.1; waiting = c.truncate.ensures; entered = refl; rank = refl }
