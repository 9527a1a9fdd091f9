use Rattle.marks.proofs.Zeros.{byte_none}
use Rattle.marks.proofs.bytes.ByteMarksMarks.clear.Goals as goal

pub returns : goal.returns
returns c = byte_none 4096
