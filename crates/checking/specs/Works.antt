-- The work space as it is made: no cell is marked, and each number is 0.
use Rattle.std.specs.Prelude.{◌≡◌}
use Rattle.marks.specs.Keepers.{bit_set}
use Rattle.marks.specs.Sets.{none}
use Rattle.cycles.specs.Works.{NewWork}
use Rattle.checking.specs.declared.work.Work.{Work}

pub record New (w : Work) : Type 0 where
  pub named : bit_set w.named.words ≡ none
  pub undone : bit_set w.undone.words ≡ none
  pub cycles : NewWork w.cycles
