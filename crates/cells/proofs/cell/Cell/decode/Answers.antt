use Rattle.std.proofs.Common.{rules}
use Rattle.cells.proofs.Words.{encode_decoded}
use Rattle.cells.proofs.cell.Cell.decode.Goals as goal

pub returns-then-in_range : goal.returns-then-in_range
returns-then-in_range c = record { result = search rules; law = encode_decoded }

pub returns-else-word-le4 : goal.returns-else-word-le4
returns-else-word-le4 c = record { result = search rules; law = encode_decoded }
