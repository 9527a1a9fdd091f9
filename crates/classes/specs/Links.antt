-- How a table of classes keeps the merges: each cell has a link and a rank.
-- The link 0 marks a root; the link suc y goes to the cell y of the same class. Each class has one root.
use Rattle.std.specs.Prelude.{◌≡◌, ℕ, suc, ◌<◌, ◌≤◌, Bool, true, false, ◌||◌, List, [], ◌∷◌, map, reverse, length, ◌==◌, ◌≢◌, slice_index_or, cond}
use Rattle.tables.specs.declared.stack.Stack.{Stack}
use Rattle.tables.specs.Stacks.{listed}
use Rattle.classes.specs.Merges.{Merge, rep, Joined}
use Rattle.classes.specs.declared.classes.Node.{Node}
use Rattle.classes.specs.declared.merged.Merged.{Merged}

abbrev pub merge_of : Merged → Merge
merge_of m = (m.left, m.right)

-- the newest merge comes first
abbrev pub merges_of : Stack Merged 4096 → List Merge
merges_of s = reverse (map merge_of (listed s))

abbrev pub root : Node
root = record { link = 0; rank = 0 }

abbrev pub link_at : List Node → ℕ → ℕ
link_at nodes x = (slice_index_or nodes x root).link

abbrev pub rank_at : List Node → ℕ → ℕ
rank_at nodes x = (slice_index_or nodes x root).rank

-- a function changed at one place
abbrev pub put : (ℕ → ℕ) → ℕ → ℕ → ℕ → ℕ
put f i v x = cond (x == i) v (f x)

-- the cell is one of the two of some merge
abbrev pub named : List Merge → ℕ → Bool
named [] x = false
named (m ∷ merges) x = (x == m.0 || x == m.1) || named merges x

-- Cells that no merge names have link and rank 0.
abbrev pub Untouched : List Merge → (ℕ → ℕ) → (ℕ → ℕ) → Type 0
Untouched merges link rank = (x : ℕ) → named merges x ≡ false → (link x ≡ 0) × (rank x ≡ 0)

pub record Linked (merges : List Merge) (link rank : ℕ → ℕ) : Type 0 where
  pub joined : Joined 4096 merges
  pub inside : (x : ℕ) → link x ≤ 4096
  pub within : (x y : ℕ) → link x ≡ suc y → rep merges x ≡ rep merges y
  pub rises : (x y : ℕ) → link x ≡ suc y → rank x < rank y
  pub one : (x y : ℕ) → link x ≡ 0 → link y ≡ 0 → rep merges x ≡ rep merges y → x ≡ y
  pub low : (x : ℕ) → rank x ≤ length merges
  pub untouched : Untouched merges link rank
  pub meets : (x y : ℕ) → link x ≡ suc y → named merges y ≡ true
  deriving IsProp as Linked-prop

-- The cell r is p or is met on the way from p to the root of its class.
pub record OnWay (merges : List Merge) (p r : ℕ) : Type 0 where
  pub below : r < 4096
  pub same : rep merges r ≡ rep merges p
  pub known : (r ≢ p) → named merges r ≡ true
