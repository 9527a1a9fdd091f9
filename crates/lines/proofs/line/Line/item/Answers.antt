use Rattle.lines.proofs.ItemReads.{line_fails, line_works}
use Rattle.lines.proofs.line.Line.item.Goals as goal

pub returns-in_err-item-clause-result : goal.returns-in_err-item-clause-result
returns-in_err-item-clause-result c =
    line_fails c.in_ok-words.words c.args.self.text.now c.in_ok-words.ensures c.args.self.number _ _
    c.from_residual-in_err-item.ensures.1 c.in_err-item.ensures

pub returns-clause-result : goal.returns-clause-result
returns-clause-result c =
    line_works c.in_ok-words.words c.args.self.text.now c.in_ok-words.ensures c.args.self.number _
    c.in_ok-item.ensures
