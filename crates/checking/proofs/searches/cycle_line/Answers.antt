use Rattle.std.proofs.Common.{refl, arith}
use Rattle.tables.proofs.Lengths.{used_fits}
use Rattle.checking.proofs.FoundLines.{found_fits, part_line, only_part}
use Rattle.checking.proofs.searches.cycle_line.Goals as goal

pub on_line-requires : goal.on_line-requires
on_line-requires c = found_fits _ _ c.first_on_cycle.ensures 2 (omega (arith, used_fits c.args.memory.now))

pub returns : goal.returns
returns c = only_part (part_line _ _ c.first_on_cycle.ensures refl c.on_line.ensures)
