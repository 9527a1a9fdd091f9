use Rattle.std.proofs.Common.{refl, arith, rules, tests}
use Rattle.std.proofs.lemmas.Iterator.{serves_from_Range}
use Rattle.tables.proofs.Lengths.{used_fits}
use Rattle.checking.proofs.FoundLines.{position_lowest, found_fits, part_line, only_part}
use Rattle.checking.proofs.cell_rules.cell_line.Goals as goal

pub position-place-requires-clause-callable : goal.position-place-requires-clause-callable
position-place-requires-clause-callable g c =
    serves_from_Range (λ x q k. search (rules, tests)) (λ x low high. let p = c.requires.1.0 x (omega (arith, high, c.used.ensures)) in search (rules, tests))

pub on_line-requires : goal.on_line-requires
on_line-requires g c =
    found_fits _ _
    (position_lowest _ _ _ c.position-place.result _ g.fault c.position-place.ensures.ran refl c.used.ensures
    (λ x b q k. (search (rules, tests), λ lt. c.requires.1.1 x b lt (search (rules, tests)))))
    2 (omega (arith, used_fits c.args.memory.now))

pub returns : goal.returns
returns g c =
    only_part
    (part_line _ _
    (position_lowest _ _ _ c.position-place.result _ g.fault c.position-place.ensures.ran refl c.used.ensures
    (λ x b q k. (search (rules, tests), λ lt. c.requires.1.1 x b lt (search (rules, tests)))))
    refl c.on_line.ensures)
