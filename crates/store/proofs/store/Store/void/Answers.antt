use Rattle.std.proofs.Common.{None, arith}
use Rattle.calls.specs.declared.Call.TheVariants.{Void}
use Rattle.store.proofs.Keeping.{whole_after}
use Rattle.store.proofs.store.Store.void.Goals as goal

pub invariant_of-self : goal.invariant_of-self
invariant_of-self c = record { whole = whole_after (Void c.args.slip.draft) c.args.self.now c.cut_heap.new.self None c.in_ok-draft.ensures.taken.1 (grind arith) }
