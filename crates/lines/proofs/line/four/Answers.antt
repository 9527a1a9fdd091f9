use Rattle.std.proofs.Common.{length, ap, arith}
use Rattle.std.proofs.lemmas.Bool.{ne_eqb}
use Rattle.lines.specs.Lines.{words_of}
use Rattle.lines.proofs.Splits.{split_some}
use Rattle.lines.proofs.line.four.Goals as goal

pub returns-in-Some : goal.returns-in-Some
returns-in-Some c =
    ne_eqb (length (words_of c.args.text.now)) 4 (λ e. omega (
      arith,
      e,
      split_some 32 c.in-Some.field-0.1.now,
      ap length c.in_ok-part.ensures.pieces,
      ap length c.in_ok-index.ensures.pieces,
      ap length c.in_ok-kind.ensures.pieces,
      ap length c.in-Some.ensures.pieces,
    ))
