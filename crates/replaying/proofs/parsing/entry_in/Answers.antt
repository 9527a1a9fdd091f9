use Rattle.std.proofs.Common.{ℕ, List, ◌∷◌, sym, ap, ◌∙◌}
use Rattle.replaying.specs.Entries.{entry_in}
use Rattle.replaying.proofs.WordCounts.{five_words}
use Rattle.replaying.proofs.parsing.entry_in.Goals as goal

pub returns-in-Some-cut-3 : goal.returns-in-Some-cut-3
returns-in-Some-cut-3 c =
    let after : List ℕ → List (List ℕ) → List (List ℕ) = λ w ws. w ∷ ws in
    let said =
    c.in-Some.ensures.pieces
    ∙ ap (after _) (c.in-Some-cut.ensures.pieces
    ∙ ap (after _) (c.in-Some-cut-2.ensures.pieces
    ∙ ap (after _) c.in-Some-cut-3.ensures.pieces)) in
    let last = c.in-Some-cut-3.field-0 in
    five_words c.in-Some.verb.now c.in-Some-cut.a.now c.in-Some-cut-2.b.now last.0.now last.1.now ∙ sym (ap entry_in said)
