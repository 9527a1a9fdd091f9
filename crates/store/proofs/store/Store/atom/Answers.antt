use Rattle.std.proofs.Common.{rules}
use Rattle.calls.specs.declared.Call.TheVariants.{Atom}
use Rattle.store.proofs.Keeping.{whole_after}
use Rattle.store.proofs.store.Store.atom.Goals as goal

pub invariant_of-self : goal.invariant_of-self
invariant_of-self c =
    let s = c.args.self.now in
    record { whole = whole_after (Atom c.args.d c.args.n) s c.set_register.new.self s.half c.in_ok-admit.ensures (search rules) }
