-- The work tables of the search: what the walks noted of a cell, and the tables as they are made.
use Rattle.std.specs.Prelude.{◌≡◌, ℕ, false, [], replicate, slice_index_or}
use Rattle.marks.specs.Keepers.{bit_set}
use Rattle.marks.specs.Sets.{none}
use Rattle.tables.specs.Stacks.{listed}
use Rattle.cycles.specs.declared.first.CycleWork.{CycleWork}
use Rattle.cycles.specs.declared.walk.Note.{Note}
use Rattle.cycles.specs.declared.walk.Walk.{Walk}

abbrev pub nothing : Note
nothing = record { rank = 0; parent = 0; followed = 0; marked = false }

-- a cell beyond the last has the rank 0 and the parent 0
abbrev pub rank_of : Walk → ℕ → ℕ
rank_of w i = (slice_index_or w.notes i nothing).rank

abbrev pub parent_of : Walk → ℕ → ℕ
parent_of w i = (slice_index_or w.notes i nothing).parent

-- nothing is noted of any cell, no cell waits or is entered, and the first component that is left gets the highest rank
pub record Cleared (w : Walk) : Type 0 where
  pub notes : w.notes ≡ replicate 4096 nothing
  pub waiting : listed w.waiting ≡ []
  pub entered : w.entered ≡ 0
  pub rank : w.rank ≡ 8192

-- a walk as it is made: each place of the stack, which are all spare, holds 0 too
pub record NewWalk (w : Walk) : Type 0 where
  pub cleared : Cleared w
  pub spare : w.waiting.items ≡ replicate 4096 0

pub record NewWork (w : CycleWork) : Type 0 where
  pub walk : NewWalk w.walk
  pub members : bit_set w.members.words ≡ none
