use Rattle.std.proofs.Common.{sym, subst}
use Rattle.cells.specs.declared.cell.Cell.{Cell}
use Rattle.calls.specs.declared.Call.TheVariants.{Put}
use Rattle.calls.specs.Steps.{on_half, write}
use Rattle.calls.specs.Whole.{Whole}
use Rattle.store.specs.Called.{state}
use Rattle.store.proofs.Keeping.{keeps_whole}
use Rattle.store.proofs.store.Store.put.Goals as goal

pub write-requires-clause-whole : goal.write-requires-clause-whole
write-requires-clause-whole c =
    let s = c.args.self.now in
    subst (λ (w : Cell). Whole (on_half (state s) (write (state s) w)).1) (sym c.register-word.ensures) (keeps_whole (Put c.args.slip.draft c.args.s) s c.in_ok-slip.ensures.taken.1)
