-- Runs whose collections are by copying and sliding, each under some pile of layers.
use Rattle.std.specs.Prelude.{List, [], ◌∷◌}
use Rattle.tables.specs.Tables.{Tables}
use Rattle.heaps.specs.Rules.{Rules, Fits}
use Rattle.collectors.specs.Collectors.{Meaning}
use Rattle.collectors.specs.Copying.{copied}
use Rattle.collectors.specs.Sliding.{slid}
use Rattle.collectors.specs.Layers.{Layer, piled, pile_count}
use Rattle.collectors.proofs.Piles.{piled_within}
use Rattle.calls.specs.declared.Call.{Call}
use Rattle.calls.specs.Steps.{State}
use Rattle.machine.specs.Machine as Tree
use Rattle.machine.specs.Runs.{Event, next, Agree, Counted, begin}

pub data Collector : Type 0 where
  copying sliding : Collector

-- a call, and the collector and the layers over it that a collect is given
pub record Given : Type 0 where
  pub call : Call
  pub collector : Collector
  pub layers : List Layer

abbrev pub leaves : Collector → List Layer → Tables → Tables
leaves copying ls t = copied (piled ls t)
leaves sliding ls t = slid (piled ls t)

-- the count of both is that of the reached cells of the tables that the layers leave
abbrev pub meaning_of : List Layer → Meaning
meaning_of ls = record { count = pile_count ls; within = λ t r. piled_within ls t }

abbrev pub event : Given → State → Event
event g s = record { call = g.call; meaning = meaning_of g.layers; left = leaves g.collector g.layers s.tables }

-- each collect leaves what its collector makes of the tables at that point
abbrev pub events : State → List Given → List Event
events s [] = []
events s (g ∷ gs) = event g s ∷ events (next (event g s) s) gs

-- Whatever list of calls is run from tables that keep the rules, each collect with copying or sliding under any pile of layers:
-- every answer, slip and refusal is the tree machine's, and after each collection the used cells are as many as its layers leave reached.
abbrev pub CollectionsAgree : Type 0
CollectionsAgree = (t : Tables) → Rules t → Fits t → (gs : List Given)
    → Agree (begin t) (Tree.loaded t) (events (begin t) gs) × Counted (begin t) (events (begin t) gs)
