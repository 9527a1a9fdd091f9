use Rattle.std.proofs.Common.{◌≡◌, length}
use Rattle.lines.specs.Lines.{split}
use Rattle.images.specs.Text.{Listing}
use Rattle.images.specs.Reading.{read_lines, tables_in}
use Rattle.images.specs.Drafts.{Holds}
use Rattle.lines.specs.Readers.{rest}
use Rattle.images.proofs.reading.read.Given as goal

-- what is listed so far, and that reading goes on with it
abbrev pub invariant-loop-line : goal.invariant-loop-line
invariant-loop-line l = (listed : Listing) × Holds l.draft listed × (tables_in l.image ≡ read_lines listed l.reader.next (split 10 (rest l.reader)))

abbrev pub decreases-loop-line : goal.decreases-loop-line
decreases-loop-line l = length (rest l.reader)
