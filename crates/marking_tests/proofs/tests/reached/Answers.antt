use Rattle.marking_tests.proofs.tests.reached.Goals as goal

pub mark_roots-requires : goal.mark_roots-requires
mark_roots-requires g c = let h = c.inside.ensures c.if-not-inside.false in record { cells = h.0; words = h.1 }
