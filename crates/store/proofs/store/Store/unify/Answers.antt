use Rattle.std.proofs.Common.{arith, subst₂}
use Rattle.cells.specs.declared.cell.Cell.{Cell}
use Rattle.tables.specs.Views.{tables_of}
use Rattle.calls.specs.declared.Call.TheVariants.{Unify}
use Rattle.unifying.specs.Unified.{Unified}
use Rattle.store.proofs.Keeping.{stands, whole_after}
use Rattle.store.proofs.UnifiedTerms.{unifies_terms}
use Rattle.store.proofs.store.Store.unify.Goals as goal

pub invariant_of-self : goal.invariant_of-self
invariant_of-self c =
    let s = c.args.self.now in
    record { whole = whole_after (Unify c.args.s c.args.t) s c.unify.new.memory s.half c.in_ok-admit.ensures (grind arith) }

pub returns-clause-iso : goal.returns-clause-iso
returns-clause-iso c =
    let s = c.args.self.now in
    let t = tables_of s.memory in
    let u = tables_of c.unify.new.memory in
    let done = subst₂ (λ (a b : Cell). Unified t a b u c.unify.result) c.register-left.ensures c.register-right.ensures c.unify.ensures.unified in
    unifies_terms t u c.args.s c.args.t c.unify.result (stands s) done
