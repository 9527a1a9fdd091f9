use Rattle.std.proofs.Common.{◌*◌, refl, ap, arith, rules, tests}
use Rattle.tables.proofs.Lengths.{used_fits, trail_fits, depth_fits}
use Rattle.checking.proofs.FoundLines.{found_lowest, found_below, part_line, only_part}
use Rattle.checking.proofs.register_rule.stray_saved.Goals as goal

pub on_line-requires : goal.on_line-requires
on_line-requires c =
    found_below c.find-saved.result _ _ c.find-saved.ensures.ran refl (ap (λ n. 8 * n) c.depth.ensures) c.saved_line.result
    (omega (arith, c.saved_line.ensures, used_fits c.args.memory.now, trail_fits c.args.memory.now, depth_fits c.args.memory.now)) (λ x q k. search (rules, tests))

pub returns : goal.returns
returns c =
    only_part
    (part_line _ _
    (found_lowest c.find-saved.result _ _ c.find-saved.ensures.ran refl (ap (λ n. 8 * n) c.depth.ensures) _ (λ x b q k. search (rules, tests)))
    c.saved_line.ensures c.on_line.ensures)
