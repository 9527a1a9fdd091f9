-- Collections by copying and sliding, under any pile of layers, are lawful at every point of a run; so the law over runs holds of them.
use Rattle.std.proofs.Common.{List, [], ◌∷◌}
use Rattle.tables.specs.Tables.{Tables}
use Rattle.heaps.specs.LevelLaws.{Stands}
use Rattle.collectors.specs.Collectors.{Shows}
use Rattle.collectors.specs.Layers.{Layer, pile_count}
use Rattle.collectors.proofs.Piles.{piled_shows}
use Rattle.calls.specs.Steps.{State}
use Rattle.calls.specs.Whole.{Whole}
use Rattle.calls.proofs.KeepLaws.{whole_tables, step_keeps}
use Rattle.machine.specs.Runs.{next, Lawful, begin}
use Rattle.machine.specs.Collections.{Collector, copying, sliding, Given, leaves, event, events, CollectionsAgree}
use Rattle.machine.proofs.RunsAgree.{runs_agree}
use Rattle.machine.proofs.RunsCounted.{runs_counted}

shows : (c : Collector) (ls : List Layer) (t : Tables) → Stands t → Shows (pile_count ls t) t (leaves c ls t)
shows copying ls t st = (piled_shows ls t st).0
shows sliding ls t st = (piled_shows ls t st).1

lawful : (s : State) (gs : List Given) → Whole s → Lawful s (events s gs)
lawful s [] w = tt
lawful s (g ∷ gs) w =
    let done = shows g.collector g.layers s.tables (whole_tables s w) in
    (λ is accepted. done, lawful (next (event g s) s) gs (step_keeps g.call (leaves g.collector g.layers s.tables) s w (λ e. (done.rules, done.fits))))

pub collections_agree : CollectionsAgree
collections_agree t r f gs = let l = lawful (begin t) gs (r, f) in (runs_agree t r f (events (begin t) gs) l, runs_counted t r f (events (begin t) gs) l)
