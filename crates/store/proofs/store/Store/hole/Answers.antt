use Rattle.std.proofs.Common.{◌≡◌, sym, subst, arith}
use Rattle.std.proofs.lemmas.Bool.{lt-ltb}
use Rattle.cells.specs.declared.cell.Cell.TheVariants.{Reference}
use Rattle.tables.specs.Views.{tables_of}
use Rattle.calls.specs.declared.Call.TheVariants.{Hole}
use Rattle.calls.specs.declared.Answer.{Answer}
use Rattle.calls.specs.Steps.{Half, State, on_half, write, act}
use Rattle.calls.specs.Whole.{Whole}
use Rattle.store.specs.Called.{state}
use Rattle.store.proofs.Accepting.{accepted}
use Rattle.store.proofs.HalfMade.{place_inside}
use Rattle.store.proofs.Keeping.{whole, stands, keeps_whole}
use Rattle.store.proofs.store.Store.hole.Goals as goal

pub write-requires-clause-range : goal.write-requires-clause-range
write-requires-clause-range c =
    let s = c.args.self.now in
    let fine = (accepted (Hole c.args.slip.draft) (state s) c.in_ok-slip.ensures.taken.1).0 in
    let half : Half = record { at = c.half_of.result.at; missing = c.half_of.result.missing } in
    let inside = place_inside (state s) c.args.slip.draft half c.half_of.ensures fine.0 (whole s) fine.1.0 in
    lt-ltb c.next-next.result 4096 (omega (arith, inside, (stands s).1.cells, c.next-next.ensures))

pub write-requires-clause-whole : goal.write-requires-clause-whole
write-requires-clause-whole c =
    let s = c.args.self.now in
    let same : on_half (state s) (write (state s) (Reference c.next-next.result)) ≡ act (Hole c.args.slip.draft) (tables_of s.memory) (state s) = grind arith in
    subst (λ (x : Answer × State). Whole x.1) (sym same) (keeps_whole (Hole c.args.slip.draft) s c.in_ok-slip.ensures.taken.1)
