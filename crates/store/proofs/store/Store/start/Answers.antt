use Rattle.std.proofs.Common.{Some, arith}
use Rattle.std.proofs.lemmas.Grind.{common_steps}
use Rattle.calls.specs.declared.Call.TheVariants.{Start}
use Rattle.refusing.specs.declared.half.Half.{Half}
use Rattle.store.proofs.Keeping.{whole_after}
use Rattle.store.proofs.store.Store.start.Goals as goal

pub invariant_of-self : goal.invariant_of-self
invariant_of-self c =
    let s = c.args.self.now in
    let half : Half = record { at = c.used-at.result; missing = c.args.arity } in
    record { whole = whole_after (Start c.args.name c.args.arity) s c.push_blanks.new.memory (Some half) c.in_ok-admit.ensures (grind (arith, common_steps)) }
