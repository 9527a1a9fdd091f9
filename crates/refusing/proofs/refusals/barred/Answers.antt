use Rattle.std.proofs.Common.{rules}
use Rattle.refusing.proofs.Checks.{first_of_three}
use Rattle.refusing.proofs.refusals.barred.Goals as goal

pub returns-in-Int : goal.returns-in-Int
returns-in-Int c = rw (c.in-Int.is, c.and-in-Int-2.ensures, c.and-in-Int.ensures, c.settled-in-Int.ensures, c.register-in-Int.ensures, c.ranged-in-Int.ensures) (search (rules, first_of_three))
