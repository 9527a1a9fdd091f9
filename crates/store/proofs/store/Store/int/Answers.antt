use Rattle.std.proofs.Common.{rules}
use Rattle.calls.specs.declared.Call.TheVariants.{Int}
use Rattle.store.proofs.Keeping.{whole_after}
use Rattle.store.proofs.store.Store.int.Goals as goal

pub invariant_of-self : goal.invariant_of-self
invariant_of-self c =
    let s = c.args.self.now in
    record { whole = whole_after (Int c.args.d c.args.z) s c.set_register.new.self s.half (search rules) (search rules) }
