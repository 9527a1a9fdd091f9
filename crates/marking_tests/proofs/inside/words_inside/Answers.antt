use Rattle.std.proofs.Common.{◌≡◌, ◌≤◌, length, get_or, arith, below_more}
use Rattle.std.proofs.lemmas.List.{get_or_default}
use Rattle.cells.specs.declared.cell.Cell.TheVariants.{Reference, Atom}
use Rattle.marking_tests.proofs.Insides.{Inside, inside_as, words_inside}
use Rattle.marking_tests.proofs.inside.words_inside.Goals as goal

pub loop-word-preserved : goal.loop-word-preserved
loop-word-preserved c =
    let ws = c.args.words.now in
    let i = c.loop-word.word-index in
    let is : get_or ws i (Reference 0) ≡ get_or ws i (Atom 0) = get_or_default ws i (Reference 0) (Atom 0) (omega arith) in
    below_more (λ n. Inside 0 (get_or ws n (Atom 0))) i c.loop-word.invariant (inside_as 0 _ _ is (c.word_inside.ensures c.if-not-word_inside.false))

pub returns : goal.returns
returns c e =
    let few : length c.args.words.now ≤ c.loop-word.word-index = omega arith in
    words_inside c.args.words.now c.loop-word.word-index few c.loop-word.invariant
