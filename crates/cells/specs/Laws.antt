-- Encoding and decoding are each other's inverse.
use Rattle.std.specs.Prelude.{◌≡◌, ℕ, ◌^◌, ◌<◌, true, Ok}
use Rattle.cells.specs.declared.cell.Cell.{Cell}
use Rattle.cells.specs.Cells.{word_of, in_range, encoded, decoded}

-- a cell in range comes back from its word
abbrev pub DecodeEncoded : Type 0
DecodeEncoded = (c : Cell) → in_range c ≡ true → decoded (word_of c) ≡ Ok c

-- the word of a cell that was decoded is the word that it was decoded from
abbrev pub EncodeDecoded : Type 0
EncodeDecoded = (w : ℕ) (c : Cell) → w < 2 ^ 32 → decoded w ≡ Ok c → encoded c ≡ Ok w
