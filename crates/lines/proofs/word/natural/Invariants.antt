use Rattle.std.proofs.Common.{◌≡◌, ◌^◌, ◌<◌, drop}
use Rattle.std.specs.Str.{all_ascii_digits}
use Rattle.lines.specs.Words.{read_on}
use Rattle.lines.proofs.word.natural.Given as goal

-- what is left to read decides
abbrev pub invariant-loop-byte : goal.invariant-loop-byte
invariant-loop-byte l =
    (all_ascii_digits l.word ≡ all_ascii_digits (drop l.byte-index l.word))
    × (read_on 0 l.word ≡ read_on l.n (drop l.byte-index l.word))
    × (l.n < 2 ^ 64)
