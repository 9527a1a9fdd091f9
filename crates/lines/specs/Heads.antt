-- The first line of an image.
use Rattle.std.specs.Prelude.{ℕ, cond, List, Ok, Err, codes, Result}
use Rattle.std.specs.Str.{bytes_eq}
use Rattle.lines.specs.declared.fault.LineFault.{LineFault}
use Rattle.lines.specs.declared.fault.LineFault.TheVariants as fault
use Rattle.lines.specs.Lines.{words_of, shaped}

abbrev pub head : List ℕ
head = codes "part index kind value"

-- the first line, with number n: it must have the shape of a line, and be the head
abbrev pub head_read : ℕ → List ℕ → Result (Unit {0}) LineFault
head_read n line = cond (shaped (words_of line)) (cond (bytes_eq line head) (Ok tt) (Err (fault.BadLayout n))) (Err (fault.BadShape n))
