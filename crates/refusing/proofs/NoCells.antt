-- Only var and start take cells.
use Rattle.std.proofs.Common.{◌≡◌, ℕ, refl}
use Rattle.calls.specs.declared.Call.{Call}
use Rattle.calls.specs.declared.Call.TheVariants.{Var, Atom, Int, Move, Look, Arg, Same, Unify, Open, Retry, Last, Cut, Start, Put, Hole, Done, Void, Collect, Usage}
use Rattle.calls.specs.Refusals.{cells_needed}

pub needs_none : (c : Call) → ((d : ℕ) → c ≡ Var d → ⊥) → ((name arity : ℕ) → c ≡ Start name arity → ⊥) → cells_needed c ≡ 0
needs_none (Var d) v s = absurd (v d refl)
needs_none (Atom d n) v s = refl
needs_none (Int d z) v s = refl
needs_none (Move d r) v s = refl
needs_none (Look r) v s = refl
needs_none (Arg d r i) v s = refl
needs_none (Same r q) v s = refl
needs_none (Unify r q) v s = refl
needs_none Open v s = refl
needs_none Retry v s = refl
needs_none Last v s = refl
needs_none (Cut k) v s = refl
needs_none (Start name arity) v s = absurd (s name arity refl)
needs_none (Put slip r) v s = refl
needs_none (Hole slip) v s = refl
needs_none (Done slip d) v s = refl
needs_none (Void slip) v s = refl
needs_none Collect v s = refl
needs_none Usage v s = refl
