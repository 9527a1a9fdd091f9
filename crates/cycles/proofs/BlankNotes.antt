-- A note whose fields are all 0 or false is the blank one, and so are 4,096 of them.
use Rattle.std.proofs.Common.{◌≡◌, false, List, replicate, ap}
use Rattle.cycles.specs.declared.walk.Note.{Note}
use Rattle.cycles.specs.Works.{nothing}

pub blank_notes : {n : Note} → n.rank ≡ 0 → n.parent ≡ 0 → n.followed ≡ 0 → n.marked ≡ false → replicate 4096 n ≡ replicate 4096 nothing
blank_notes {n} r p f m = ap (λ (x : Note). replicate 4096 x) (λ i. record { rank = r i; parent = p i; followed = f i; marked = m i })
