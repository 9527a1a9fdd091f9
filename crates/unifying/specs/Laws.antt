-- What is proved of unifying and comparing with merges: statements, each of which stands in the contract of a public function.
use Rattle.std.specs.Prelude.{◌≡◌, ℕ, ◌<◌, Bool, List, [], ◌∷◌, length, Option}
use Rattle.cells.specs.declared.cell.Cell.{Cell}
use Rattle.tables.specs.Tables.{Tables}
use Rattle.terms.specs.Terms.{same_tree}
use Rattle.heaps.specs.Spelling.{spell}
use Rattle.heaps.specs.LevelLaws.{Stands, Keeps}
use Rattle.calls.specs.Unifying.{words, unify_words}
use Rattle.classes.specs.Merges.{Merge, Joined}
use Rattle.unifying.specs.Merging.{MemoRun, SameRun}

-- Unifying with merges has the result of unifying without: the same answer, and the same tables.
abbrev pub MemoRight : Type 0
MemoRight = (t : Tables) (a b : Cell) (r : Option Tables) → Stands t → Keeps t a → Keeps t b → MemoRun t [] (words a b ∷ []) r → r ≡ unify_words t a b

-- Comparing with merges says whether the two words spell the same term.
abbrev pub SameRight : Type 0
SameRight = (t : Tables) (a b : Cell) (r : Bool) → Stands t → Keeps t a → Keeps t b → SameRun t [] (words a b ∷ []) r
    → r ≡ same_tree (spell t.heap a) (spell t.heap b)

-- There are fewer merges than cells.
abbrev pub MergesFewer : Type 0
MergesFewer = (n : ℕ) (merges : List Merge) → 0 < n → Joined n merges → length merges < n
