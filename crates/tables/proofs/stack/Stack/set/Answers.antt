use Rattle.std.proofs.Common.{rules}
use Rattle.std.proofs.lemmas.List.{length-take-le}
use Rattle.std.proofs.Math.Seq.{take-set-lt}
use Rattle.tables.proofs.stack.Stack.set.Goals as goal

pub returns : goal.returns
returns g c = search (rules, take-set-lt, length-take-le)
