use Rattle.std.proofs.Common.{refl}
use Rattle.terms.proofs.Robinson.{unify_exact}
use Rattle.terms.proofs.MostGeneral.{unify_most_general}
use Rattle.terms.proofs.unification_stands.Goals as goal

pub returns : goal.returns
returns c = record { exact = unify_exact; general = unify_most_general; answer = refl }
