-- A marking that is under way: a set, and the cells that were marked and are not yet looked at.
use Rattle.std.specs.Prelude.{◌≡◌, ℕ, ◌+◌, ◌≤◌, Bool, true, ◌⊎◌, List, length}
use Rattle.marks.specs.Sets.{count_below}
use Rattle.tables.specs.Stacks.{listed}
use Rattle.heaps.specs.Lists.{Among}
use Rattle.heaps.specs.Leads.{Heap, LeadsBy}
use Rattle.marking.specs.declared.pending.Pending.{Pending}

abbrev pub waiting : Pending → List ℕ
waiting p = listed p.cells

-- how many cells are marked
abbrev pub total : (ℕ → Bool) → ℕ
total s = count_below s 4096

-- From the set s and the waiting cells p, the cells with P were marked, each one that was new waits,
-- and the set is now t, the waiting cells q.
pub record Noted (P : ℕ → Type 0) (s : ℕ → Bool) (p : List ℕ) (t : ℕ → Bool) (q : List ℕ) : Type 0 where
  pub kept : (k : ℕ) → s k ≡ true → t k ≡ true
  pub stays : (k : ℕ) → Among k p → Among k q
  pub only : (k : ℕ) → t k ≡ true → (s k ≡ true) ⊎ (P k × Among k q)
  pub waits : (k : ℕ) → Among k q → Among k p ⊎ (t k ≡ true)
  pub all : (k : ℕ) → P k → t k ≡ true
  pub sum : length q + total s ≡ length p + total t

-- Members lead to members, unless they wait. What waits is a member, and no more cells wait than there are members.
pub record Underway (h : Heap) (s : ℕ → Bool) (p : List ℕ) : Type 0 where
  pub leads : (i j : ℕ) → s i ≡ true → LeadsBy i (h i) j → (s j ≡ true) ⊎ Among i p
  pub members : (i : ℕ) → Among i p → s i ≡ true
  pub room : length p ≤ total s

-- the least set that holds the members of s and what its own members lead to
pub data From (h : Heap) (s : ℕ → Bool) : ℕ → Type 0 where
  held : {k : ℕ} → s k ≡ true → From h s k
  led : {i j : ℕ} → From h s i → LeadsBy i (h i) j → From h s j

-- the set grew from s to t by what its members lead to
pub record Grown (h : Heap) (s t : ℕ → Bool) : Type 0 where
  pub kept : (k : ℕ) → s k ≡ true → t k ≡ true
  pub from : (k : ℕ) → t k ≡ true → From h s k
