use Rattle.std.proofs.Common.{ℕ, length, replicate, sym, ap, ◌∙◌, subst, arith}
use lib.ListN.{length-replicate}
use Rattle.tables.specs.Stacks.{listed}
use Rattle.occurring.specs.Bytes.{zeros, Ones}
use Rattle.occurring.proofs.ByteLaws.{ones_blank, zeros_blank}
use Rattle.occurring.proofs.visits.VisitTable.clear.Goals as goal

pub invariant_of-self : goal.invariant_of-self
invariant_of-self c =
    let blank = c.clear_listed.ensures in
    let none = c.truncate.ensures in
    record {
      whole = ap length blank ∙ length-replicate {A = ℕ} 4096 0;
      ones = subst (λ bs. Ones bs (listed c.truncate.new.self)) (sym blank) (subst (Ones (replicate 4096 0)) (sym none) (ones_blank 4096));
      count = omega (arith, ap zeros blank ∙ zeros_blank 4096, ap length none);
    }
