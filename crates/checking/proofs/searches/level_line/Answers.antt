use Rattle.std.proofs.Common.{arith}
use Rattle.tables.proofs.Lengths.{used_fits, trail_fits, depth_fits}
use Rattle.checking.proofs.FoundLines.{found_fits, part_line, only_part}
use Rattle.checking.proofs.searches.level_line.Goals as goal

pub on_line-requires : goal.on_line-requires
on_line-requires g c =
    found_fits _ _ c.first_leak.ensures c.heap_top_line.result
    (omega (arith, used_fits c.args.memory.now, trail_fits c.args.memory.now, depth_fits c.args.memory.now, c.heap_top_line.ensures))

pub returns : goal.returns
returns g c = only_part (part_line _ _ c.first_leak.ensures c.heap_top_line.ensures c.on_line.ensures)
