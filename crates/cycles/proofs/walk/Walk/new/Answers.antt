use Rattle.std.proofs.Common.{refl}
use Rattle.cycles.proofs.BlankNotes.{blank_notes}
use Rattle.cycles.proofs.walk.Walk.new.Goals as goal

pub returns : goal.returns
returns c =
    let e = c.default.ensures in
    record {
      cleared = record { notes = blank_notes e.0 e.1.0 e.1.1.0 e.1.1.1; waiting = c.new.ensures.empty; entered = refl; rank = refl };
      spare = c.new.ensures.spare;
    }
