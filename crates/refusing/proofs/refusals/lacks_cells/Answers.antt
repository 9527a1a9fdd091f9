use Rattle.std.proofs.Common.{sym, arith}
use Rattle.std.proofs.lemmas.Bool.{le-ltb}
use Rattle.refusing.proofs.NoCells.{needs_none}
use Rattle.refusing.proofs.refusals.lacks_cells.Goals as goal

pub returns-in_default : goal.returns-in_default
returns-in_default c = sym (le-ltb _ _ (omega (arith, c.requires, needs_none c.args.call c.in_default.not-Var c.in_default.not-Start)))
