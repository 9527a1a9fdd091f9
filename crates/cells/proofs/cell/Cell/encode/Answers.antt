use Rattle.std.proofs.Common.{rules}
use Rattle.cells.proofs.Words.{decode_encoded}
use Rattle.cells.proofs.cell.Cell.encode.Goals as goal

pub returns-then-in_range : goal.returns-then-in_range
returns-then-in_range c = record { result = search rules; law = decode_encoded }

pub returns-else-in_range : goal.returns-else-in_range
returns-else-in_range c = record { result = search rules; law = decode_encoded }
