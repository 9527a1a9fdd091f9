-- What a reader still has before it, and what it hands out.
use Rattle.std.specs.Prelude.{◌≡◌, ℕ, ◌+◌, ◌<◌, List, [], ◌∷◌, length, Some, None, Option}
use Rattle.lines.specs.declared.line.Line.{Line}
use Rattle.lines.specs.declared.reader.Reader.{Reader}
use Rattle.lines.specs.Lines.{split}

abbrev pub rest : Reader → List ℕ
rest r = r.rest.now

-- a reader hands out its first line, and has the others before it
pub record Gives (r s : Reader) (l : Line) : Type 0 where
  pub line : split 10 (rest r) ≡ l.text.now ∷ split 10 (rest s)
  pub number : l.number ≡ r.next
  pub next : s.next ≡ r.next + 1
  pub shorter : length (rest s) < length (rest r)

-- what a reader hands out, if anything is left
abbrev pub Hands : Reader → Reader → Option Line → Type 0
Hands r s (Some l) = Gives r s l
Hands r s None = (rest r ≡ []) × (s.next ≡ r.next)
