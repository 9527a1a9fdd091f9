use Rattle.std.proofs.Common.{rules}
use Rattle.classifying.proofs.Digits.{number_large}
use Rattle.classifying.proofs.line.number.Goals as goal

pub returns-then-n-gt-MOST : goal.returns-then-n-gt-MOST
returns-then-n-gt-MOST c = number_large c.args.text.now c.loop-rest.rest.now c.loop-rest.n c.loop-rest.invariant.0 (search rules) (search rules) c.if-n-gt-MOST.true
