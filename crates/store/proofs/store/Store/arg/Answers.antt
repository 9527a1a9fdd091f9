use Rattle.std.proofs.Common.{sym, ap, ◌∙◌, arith, rules}
use Rattle.cells.specs.Cells.{in_range}
use Rattle.tables.specs.Views.{tables_of}
use Rattle.calls.specs.declared.Call.TheVariants.{Arg}
use Rattle.refusing.proofs.ArgumentCells.{argument_word}
use Rattle.store.proofs.Keeping.{stands, whole_after}
use Rattle.store.proofs.store.Store.arg.Goals as goal

pub argument-requires : goal.argument-requires
argument-requires c = stands c.args.self.now

pub set_register-requires : goal.set_register-requires
set_register-requires c =
    let s = c.args.self.now in
    let t = tables_of s.memory in
    (search rules, ap in_range c.cell-word.ensures ∙ (argument_word t (stands s) c.args.s c.args.i c.in-Some.place (sym c.in-Some.ensures)).1)

pub invariant_of-self : goal.invariant_of-self
invariant_of-self c =
    let s = c.args.self.now in
    record { whole = whole_after (Arg c.args.d c.args.s c.args.i) s c.set_register.new.self s.half c.in_ok-admit.ensures (grind arith) }
