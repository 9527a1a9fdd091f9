use Rattle.std.proofs.Common.{rules}
use Rattle.calls.specs.declared.Call.TheVariants.{Open}
use Rattle.store.proofs.Keeping.{whole_after}
use Rattle.store.proofs.store.Store.open.Goals as goal

pub invariant_of-self : goal.invariant_of-self
invariant_of-self c =
    let s = c.args.self.now in
    record { whole = whole_after Open s c.push_choice.new.self s.half c.in_ok-admit.ensures (search rules) }
