use Rattle.std.proofs.Common.{◌<◌, length, set, sym, ap, ◌∙◌, subst, arith, length-set}
use Rattle.std.proofs.lemmas.List.{length_push}
use Rattle.tables.specs.Stacks.{listed}
use Rattle.occurring.specs.Bytes.{Ones}
use Rattle.occurring.proofs.ByteLaws.{ones_set, zeros_set}
use Rattle.occurring.proofs.visits.VisitTable.visit.Goals as goal

pub push-requires : goal.push-requires
push-requires c =
    let v = c.args.self.now in
    let low : c.args.n < length v.bytes = omega (arith, c.requires, v.whole) in
    let fewer = zeros_set v.bytes c.args.n low c.if-self-n-eq0.true in
    (omega arith, omega (arith, fewer, v.count))

pub invariant_of-self : goal.invariant_of-self
invariant_of-self c =
    let v = c.args.self.now in
    let n = c.args.n in
    let low : n < length v.bytes = omega (arith, c.requires, v.whole) in
    let fewer = zeros_set v.bytes n low c.if-self-n-eq0.true in
    let longer = ap length c.push.ensures ∙ length_push (listed v.cells) n in
    record {
      whole = length-set v.bytes n 1 ∙ v.whole;
      ones = subst (Ones (set v.bytes n 1)) (sym c.push.ensures) (ones_set v.bytes (listed v.cells) v.ones n low);
      count = omega (arith, fewer, longer, v.count);
    }
