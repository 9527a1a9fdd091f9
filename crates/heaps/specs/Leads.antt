-- Where cells lead.
use Rattle.std.specs.Prelude.{◌≡◌, ℕ, suc, ◌+◌, ◌<◌, ◌≤◌, Bool, true, false, cond, List, ◌==◌, slice_index_or}
use Rattle.cells.specs.declared.cell.Cell.{Cell}
use Rattle.cells.specs.declared.cell.Cell.TheVariants.{Reference, Pointer, Functor, Atom, Integer}

-- The heap as a function: a cell that is not in use counts as an unbound variable.
abbrev pub Heap : Type 0
Heap = ℕ → Cell

abbrev pub heap_of : List Cell → Heap
heap_of cells n = slice_index_or cells n (Reference n)

-- the heap with one cell changed
abbrev pub put : Heap → ℕ → Cell → Heap
put h x c n = cond (n == x) c (h n)

-- The word in cell i leads to `many` neighbouring cells, from `first` on:
-- a reference to its cell, a pointer to its functor's cell, a functor to its arguments, which are the cells after it.
-- A word in a register holds no functor, so there the place does not matter.
abbrev pub first : ℕ → Cell → ℕ
first i (Reference n) = n
first i (Pointer n) = n
first i (Functor name arity) = suc i
first i (Atom n) = 0
first i (Integer z) = 0

abbrev pub many : Cell → ℕ
many (Reference n) = 1
many (Pointer n) = 1
many (Functor name arity) = arity
many (Atom n) = 0
many (Integer z) = 0

abbrev pub LeadsBy : ℕ → Cell → ℕ → Type 0
LeadsBy i c j = (first i c ≤ j) × (j < first i c + many c)

-- whether the word is the reference to cell n
abbrev pub refers_to : ℕ → Cell → Bool
refers_to n (Reference m) = m == n
refers_to n (Pointer m) = false
refers_to n (Functor name arity) = false
refers_to n (Atom a) = false
refers_to n (Integer z) = false

-- a cell that refers to itself is an unbound variable
abbrev pub unbound : Heap → ℕ → Bool
unbound h n = refers_to n (h n)

abbrev pub is_functor : Cell → Bool
is_functor (Reference n) = false
is_functor (Pointer n) = false
is_functor (Functor name arity) = true
is_functor (Atom n) = false
is_functor (Integer z) = false

-- cell i leads to cell j; an unbound variable leads nowhere else than to itself, which does not count
abbrev pub Leads : Heap → ℕ → ℕ → Type 0
Leads h i j = LeadsBy i (h i) j × (unbound h i ≡ false)

-- one or more steps
pub data Way (h : Heap) : ℕ → ℕ → Type 0 where
  step : {i j : ℕ} → Leads h i j → Way h i j
  more : {i j k : ℕ} → Leads h i j → Way h j k → Way h i k

abbrev pub Acyclic : Heap → Type 0
Acyclic h = (i : ℕ) → Way h i i → ⊥

-- the same word with what it leads to renamed
abbrev pub relocate : (ℕ → ℕ) → Cell → Cell
relocate f (Reference n) = Reference (f n)
relocate f (Pointer n) = Pointer (f n)
relocate f (Functor name arity) = Functor name arity
relocate f (Atom n) = Atom n
relocate f (Integer z) = Integer z
