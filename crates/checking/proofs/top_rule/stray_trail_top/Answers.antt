use Rattle.std.proofs.Common.{arith}
use Rattle.tables.proofs.Lengths.{used_fits, trail_fits, depth_fits}
use Rattle.checking.proofs.FoundLines.{found_fits, part_line, only_part}
use Rattle.checking.proofs.top_rule.stray_trail_top.Goals as goal

pub on_line-requires : goal.on_line-requires
on_line-requires c =
    found_fits _ _ c.first_stray-trail_top.ensures c.trail_top_line.result
    (omega (arith, c.trail_top_line.ensures, c.depth.ensures, used_fits c.args.memory.now, trail_fits c.args.memory.now, depth_fits c.args.memory.now))

pub returns : goal.returns
returns c =
    only_part
    (part_line _ _ (rw (c.trailed.ensures, c.depth.ensures) at c.first_stray-trail_top.ensures) c.trail_top_line.ensures c.on_line.ensures)
