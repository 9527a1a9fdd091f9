use Rattle.std.proofs.Common.{length, replicate, sym, refl, ap, subst, arith}
use Rattle.occurring.specs.Bytes.{Ones}
use Rattle.occurring.proofs.ByteLaws.{ones_blank, zeros_blank}
use Rattle.occurring.proofs.visits.VisitTable.new.Goals as goal

pub invariant_of-result : goal.invariant_of-result
invariant_of-result c =
    let none = c.new.ensures.empty in
    record {
      whole = refl;
      ones = subst (Ones (replicate 4096 0)) (sym none) (ones_blank 4096);
      count = omega (arith, zeros_blank 4096, ap length none);
    }
