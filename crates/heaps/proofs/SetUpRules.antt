-- The tables of a new store keep the rules and fit the memory.
use Rattle.std.proofs.Common.{ℕ, eqb, [], refl, arith}
use Rattle.std.proofs.lemmas.Bool.{eq-eqb, both_ways}
use Rattle.tables.specs.Tables.{set_up}
use Rattle.heaps.specs.Leads.{heap_of, Way, step, more}
use Rattle.heaps.specs.LevelLaws.{Stands}

no_way : (i j : ℕ) → Way (heap_of []) i j → ⊥
no_way i j (step l) = both_ways (eqb i i) l.1 (eq-eqb i i refl)
no_way i j (more l w) = both_ways (eqb i i) l.1 (eq-eqb i i refl)

pub stands_set_up : Stands set_up
stands_set_up = (
  record {
    references = λ i m lt e. absurd (omega arith);
    pointers = λ i m lt e. absurd (omega arith);
    arguments = λ i name arity j lt e p q. absurd (omega arith);
    registers = ((tt, (tt, (tt, (tt, (tt, (tt, (tt, (tt, tt)))))))), tt);
    trail = (tt, tt);
    tops = tt;
    acyclic = λ i w. no_way i i w;
    levels = tt;
  },
  record {
    cells = omega arith;
    entries = omega arith;
    points = omega arith;
    registers = refl;
    saved = tt;
    heap_range = tt;
    register_range = (refl, (refl, (refl, (refl, (refl, (refl, (refl, (refl, tt))))))));
    saved_range = tt;
  },
)
