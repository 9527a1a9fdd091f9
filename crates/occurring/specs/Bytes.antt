-- A table of bytes, one for each cell.
use Rattle.std.specs.Prelude.{◌≡◌, ℕ, ◌+◌, cond, List, [], ◌∷◌, ◌==◌, slice_index}
use Rattle.heaps.specs.Lists.{is_in}

-- how many bytes are 0
abbrev pub zeros : List ℕ → ℕ
zeros [] = 0
zeros (x ∷ xs) = cond (x == 0) 1 0 + zeros xs

-- The bytes of the listed cells are 1, and all others are 0.
abbrev pub Ones : List ℕ → List ℕ → Type 0
Ones bytes cells = (k : ℕ) → slice_index bytes k ≡ cond (is_in k cells) 1 0
