-- What a stack of frames stands for: the pairs still to be gone through, the newest first.
use Rattle.std.specs.Prelude.{List, map, reverse}
use Rattle.tables.specs.Stacks.{listed}
use Rattle.calls.specs.Unifying.{Pair, rows}
use Rattle.unifying.specs.declared.frames.Frame.{Frame}
use Rattle.unifying.specs.declared.frames.Frames.{Frames}

abbrev pub rows_of : Frame → Pair
rows_of f = rows f.left f.right f.count

abbrev pub pairs : Frames → List Pair
pairs f = reverse (map rows_of (listed f.stack))
