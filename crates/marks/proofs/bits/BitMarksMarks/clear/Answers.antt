use Rattle.marks.proofs.Zeros.{bit_none}
use Rattle.marks.proofs.bits.BitMarksMarks.clear.Goals as goal

pub returns : goal.returns
returns c = bit_none 64
