-- What a fault of a word is called for its line.
use Rattle.lines.specs.declared.fault.WordFault.{WordFault}
use Rattle.lines.specs.declared.fault.WordFault.TheVariants as word
use Rattle.lines.specs.declared.fault.LineFault.{LineFault}
use Rattle.lines.specs.declared.fault.LineFault.TheVariants as line

abbrev pub of_word : WordFault → LineFault
of_word (word.BadShape n) = line.BadShape n
of_word (word.BadLayout n) = line.BadLayout n
