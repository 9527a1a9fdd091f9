use Rattle.std.proofs.Common.{◌%◌, rules}
use Rattle.std.proofs.lemmas.Nat.{one_shl}
use Rattle.marks.proofs.BitSets.{bit_mark}
use Rattle.marks.proofs.bits.BitMarksMarks.mark.Goals as goal

pub returns-then-n-lt-CELLS : goal.returns-then-n-lt-CELLS
returns-then-n-lt-CELLS c =
    bit_mark c.args.self.now.words c.args.n _ (search rules) (search rules) (one_shl (c.args.n % 64) 64 (search rules))
