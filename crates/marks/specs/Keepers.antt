-- The sets that the memory of a mark keeper stands for.

use Rattle.std.specs.Prelude.{ℕ, ◌/◌, ◌%◌, ◌^◌, Bool, not, ◌&&◌, List, ◌==◌, slice_index}
use Rattle.marks.specs.Sets.{is_cell}

-- a byte for each cell, which is 0 where the cell is not in the set
abbrev pub byte_set : List ℕ → ℕ → Bool
byte_set bytes n = is_cell n && not (slice_index bytes n == 0)

-- whether bit i of a word is 1; bit 0 is the lowest
abbrev pub bit : ℕ → ℕ → Bool
bit word i = (word / 2 ^ i) % 2 == 1

-- a bit for each cell, 64 of them in a word
abbrev pub bit_set : List ℕ → ℕ → Bool
bit_set words n = is_cell n && bit (slice_index words (n / 64)) (n % 64)
