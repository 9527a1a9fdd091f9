use Rattle.std.proofs.Common.{None, rules}
use Rattle.calls.specs.declared.Call.TheVariants.{Done}
use Rattle.store.proofs.Keeping.{whole_after}
use Rattle.store.proofs.store.Store.done.Goals as goal

pub invariant_of-self : goal.invariant_of-self
invariant_of-self c = record { whole = whole_after (Done c.args.slip.draft c.args.d) c.args.self.now c.set_register.new.self None c.in_ok-draft.ensures.taken.1 (search rules) }
