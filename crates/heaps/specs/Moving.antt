-- Moving cells to other places, and shortening chains of references: what a collector does to a heap.
use Rattle.std.specs.Prelude.{◌≡◌, ℕ, ◌+◌, ◌≤◌}
use Rattle.heaps.specs.Leads.{Heap, LeadsBy, relocate}
use Rattle.heaps.specs.Spelling.{arity_of}

-- f moves the cells of the set R from the heap h to the heap k. R holds what its members lead to, f is one-to-one on R
-- and leaves the arguments of a functor right after it, and each word arrives with what it leads to renamed.
pub record Moves (R : ℕ → Type 0) (f : ℕ → ℕ) (h k : Heap) : Type 0 where
  pub arrives : (i : ℕ) → R i → k (f i) ≡ relocate f (h i)
  pub closed : (i j : ℕ) → R i → LeadsBy i (h i) j → R j
  pub apart : (i j : ℕ) → R i → R j → f i ≡ f j → i ≡ j
  pub neighbours : (i m : ℕ) → R i → m ≤ arity_of (h i) → f (i + m) ≡ f i + m
