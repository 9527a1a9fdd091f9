-- Words of an image have at most ten bytes. Their numbers are far below the limits of 64 bits, so reading numbers up to
-- these limits leaves none of them out.
use Rattle.std.specs.Prelude.{◌≡◌, ℕ, zero, suc, ◌≤◌, cond, List, length, drop, ℤ, pos, negsuc, Some, None, Option, ◌==◌, slice_index}
use Rattle.lines.specs.Words.{natural, natural64, integer64}

-- integers of any size
abbrev pub below0 : Option ℕ → Option ℤ
below0 None = None
below0 (Some zero) = None
below0 (Some (suc n)) = Some (negsuc n)

abbrev pub from0 : Option ℕ → Option ℤ
from0 None = None
from0 (Some n) = Some (pos n)

abbrev pub integer : List ℕ → Option ℤ
integer w = cond (slice_index w 0 == 45) (below0 (natural (drop 1 w))) (from0 (natural w))

abbrev pub ShortWords : Type 0
ShortWords = (w : List ℕ) → length w ≤ 10 → (natural64 w ≡ natural w) × (integer64 w ≡ integer w)
