use Rattle.std.proofs.Common.{rules}
use Rattle.calls.specs.declared.Call.TheVariants.{Retry}
use Rattle.store.proofs.Keeping.{stands, whole_after}
use Rattle.store.proofs.store.Store.retry.Goals as goal

pub go_back-requires-clause-stands : goal.go_back-requires-clause-stands
go_back-requires-clause-stands c = stands c.args.self.now

pub invariant_of-self : goal.invariant_of-self
invariant_of-self c =
    let s = c.args.self.now in
    record { whole = whole_after Retry s c.go_back.new.memory s.half c.in_ok-admit.ensures (search rules) }
