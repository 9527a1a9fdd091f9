-- Sets of cell numbers.
-- A set is its membership test: n is a member of s where s n is true.

use Rattle.std.specs.Prelude.{ℕ, zero, suc, ◌+◌, Bool, false, cond, ◌||◌, ◌==◌, nat_lt}

-- whether a cell has the number n: the heap has 4,096 cells
abbrev pub is_cell : ℕ → Bool
is_cell n = nat_lt n 4096

abbrev pub none : ℕ → Bool
none n = false

-- s with one more member, the cell n; a number that no cell has adds nothing
abbrev pub with_cell : (ℕ → Bool) → ℕ → ℕ → Bool
with_cell s n = cond (is_cell n) (λ k. (k == n) || s k) s

-- how many members of s are below n
unfoldable pub count_below : (ℕ → Bool) → ℕ → ℕ
count_below s zero = 0
count_below s (suc n) = count_below s n + cond (s n) 1 0
