-- A cell and the 32-bit word that holds it: the low three bits are the kind, the upper 29 the value.
use Rattle.std.specs.Prelude.{ℕ, zero, suc, ◌+◌, ◌-◌, ◌*◌, ◌/◌, ◌%◌, ◌^◌, Bool, cond, ◌&&◌, ℤ, pos, negsuc, Ok, Err, Result, nat_le, nat_lt}
use Rattle.cells.specs.declared.cell.Cell.{Cell}
use Rattle.cells.specs.declared.cell.Cell.TheVariants.{Reference, Pointer, Functor, Atom, Integer}
use Rattle.cells.specs.declared.refusal.Refusal.{Refusal}
use Rattle.cells.specs.declared.refusal.Refusal.TheVariants.{OutOfRange}

-- an integer in two's complement of 29 bits
abbrev pub bits29 : ℤ → ℕ
bits29 (pos n) = n
bits29 (negsuc n) = 2 ^ 29 - suc n

abbrev pub signed29 : ℕ → ℤ
signed29 v = cond (nat_lt v (2 ^ 28)) (pos v) (negsuc (2 ^ 29 - 1 - v))

-- a functor's value
abbrev pub functor_value : ℕ → ℕ → ℕ
functor_value name arity = name * 64 + arity

abbrev pub word_of : Cell → ℕ
word_of (Reference n) = n * 8
word_of (Pointer n) = n * 8 + 1
word_of (Functor name arity) = functor_value name arity * 8 + 2
word_of (Atom n) = n * 8 + 3
word_of (Integer z) = bits29 z * 8 + 4

abbrev pub cell_of_kind : ℕ → ℕ → Cell
cell_of_kind zero v = Reference v
cell_of_kind (suc zero) v = Pointer v
cell_of_kind (suc (suc zero)) v = Functor (v / 64) (v % 64)
cell_of_kind (suc (suc (suc zero))) v = Atom v
cell_of_kind (suc (suc (suc (suc k)))) v = Integer (signed29 v)

-- what a word says by its kind and its value; kinds 5 to 7, which no cell has, read as integers
abbrev pub cell_of : ℕ → Cell
cell_of w = cell_of_kind (w % 8) (w / 8)

-- the ranges: 4,096 cells, 65,536 atoms and names, arities 1 to 32, integers of 29 bits
abbrev pub in_range : Cell → Bool
in_range (Reference n) = nat_lt n 4096
in_range (Pointer n) = nat_lt n 4096
in_range (Functor name arity) = nat_lt name 65536 && (nat_lt 0 arity && nat_le arity 32)
in_range (Atom n) = nat_lt n 65536
in_range (Integer (pos n)) = nat_lt n (2 ^ 28)
in_range (Integer (negsuc n)) = nat_lt n (2 ^ 28)

-- a cell out of range has no word
abbrev pub encoded : Cell → Result ℕ Refusal
encoded c = cond (in_range c) (Ok (word_of c)) (Err OutOfRange)

-- a word of no kind or with a value out of range holds no cell
abbrev pub decoded : ℕ → Result Cell Refusal
decoded w = cond (nat_le (w % 8) 4 && in_range (cell_of w)) (Ok (cell_of w)) (Err OutOfRange)
