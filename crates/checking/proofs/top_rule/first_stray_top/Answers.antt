use Rattle.std.proofs.Common.{arith, rules, tests}
use Rattle.tables.proofs.Lengths.{used_fits, trail_fits, depth_fits}
use Rattle.checking.proofs.FoundLines.{found_fits, part_line, part_then}
use Rattle.checking.proofs.top_rule.first_stray_top.Goals as goal

pub on_line-requires : goal.on_line-requires
on_line-requires c =
    found_fits _ _ c.first_stray-heap_top.ensures c.heap_top_line.result
    (omega (arith, c.heap_top_line.ensures, c.depth.ensures, used_fits c.args.memory.now, trail_fits c.args.memory.now, depth_fits c.args.memory.now))

pub returns : goal.returns
returns c =
    part_then
    (part_line _ _ (rw (c.used.ensures, c.depth.ensures) at c.first_stray-heap_top.ensures) c.heap_top_line.ensures c.on_line.ensures)
    c.or_else.ensures (λ h. search (rules, tests))
