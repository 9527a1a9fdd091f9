-- The law over runs, by induction over the list of calls. Set-up is a start as a loaded image gives it.
use Rattle.std.proofs.Common.{◌≡◌, Bool, true, false, cond, List, [], ◌∷◌, refl}
use Rattle.calls.specs.Steps.{State}
use Rattle.machine.specs.Machine as Tree
use Rattle.machine.specs.Machine.{Machine}
use Rattle.machine.specs.Runs.{Event, answer, next, Lawful, is_want, Compared, Agree, begin, RunsAgree, SetUpLoaded}
use Rattle.machine.proofs.Related.{Relates}
use Rattle.machine.proofs.Loaded.{loaded_relates}
use Rattle.machine.proofs.Stepped.{told, stepped}

agree : (es : List Event) (s : State) (m : Machine) → Relates s m → Lawful s es → Agree s m es
agree [] s m r l = tt
agree (e ∷ es) s m r l =
    let a = stepped e s m r l.0 in
    test (is_want (answer e s)) a.1 (agree es (next e s) (told e s m) a.0 l.1)
  where
    test : (b : Bool) → (b ≡ false → Compared (answer e s) (Tree.step e.call m).0) → Agree (next e s) (cond b m (Tree.step e.call m).1) es
        → cond b (Agree (next e s) m es) (Compared (answer e s) (Tree.step e.call m).0 × Agree (next e s) (Tree.step e.call m).1 es)
    test true f a = a
    test false f a = (f refl, a)

pub runs_agree : RunsAgree
runs_agree t r f es l = agree es (begin t) (Tree.loaded t) (loaded_relates t (r, f)) l

pub set_up_loaded : SetUpLoaded
set_up_loaded = refl
