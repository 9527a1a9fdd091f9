use Rattle.marking.specs.Walks.{waiting, Noted}
use Rattle.marking.proofs.Words.{LedBelow}
use Rattle.marking.proofs.roots.mark_words.Given as goal

-- what the words so far lead to is marked
abbrev pub invariant-loop-word : goal.invariant-loop-word
invariant-loop-word g l =
    Noted (LedBelow l.words l.word-index) (g.M.Marks.has l.initial.marks) (waiting l.initial.pending) (g.M.Marks.has l.marks) (waiting l.pending)
