-- The tree machine: what the calls mean on terms with numbered variables. It has no cells and never collects.
use Rattle.std.specs.Prelude.{ℕ, zero, suc, ◌+◌, ◌-◌, Bool, true, false, cond, List, [], ◌∷◌, length, drop, replicate, nat_lt, Option, Some, None}
use Rattle.cells.specs.declared.refusal.Refusal.{Refusal}
use Rattle.cells.specs.declared.answer.Seen.{Seen}
use Rattle.cells.specs.declared.answer.Seen.TheVariants.{Variable, Atom as SeenAtom, Integer as SeenInteger, Structure}
use Rattle.cells.specs.declared.answer.Verdict.TheVariants.{No, Yes}
use Rattle.cells.specs.Cells.{functor_value}
use Rattle.tables.specs.Tables.{Choice, Tables, used}
use Rattle.terms.specs.Terms.{Label, named, whole, functor, Term, Terms, var, node, nil, cons, apply, pick, change, joined, long, row, same_tree}
use Rattle.terms.specs.Unifiers.{Subst}
use Rattle.terms.specs.Robinson.{unify}
use Rattle.heaps.specs.Spelling.{spelled}
use Rattle.heaps.specs.Levels.{last}
use Rattle.calls.specs.declared.Draft.{Draft}
use Rattle.calls.specs.declared.Call.{Call}
use Rattle.calls.specs.declared.Call.TheVariants.{Var, Atom as SetAtom, Int, Move, Look, Arg, Same, Unify, Open, Retry, Last, Cut, Start, Put, Hole, Done, Void, Collect, Usage}
use Rattle.calls.specs.declared.Answer.{Answer}
use Rattle.calls.specs.declared.Answer.TheVariants.{Nothing, Refused, Sees, Tells, Hands}
use Rattle.calls.specs.Refusals.{refusal}
use Rattle.calls.specs.Steps.{verdict}

-- A value or none for each variable, and the terms of the eight registers.
-- A variable whose value is itself has none.
pub record Level : Type 0 where
  pub values : Subst
  pub registers : Terms

-- a structure that is half made: its functor, and its arguments so far
pub record Begun : Type 0 where
  pub name : ℕ
  pub arity : ℕ
  pub arguments : Terms

-- the next variable number, the present, what was saved at each choice point (newest first), and perhaps a half-made structure
pub record Machine : Type 0 where
  pub next : ℕ
  pub now : Level
  pub saved : List Level
  pub half : Option Begun

abbrev pub with_now : Machine → Level → Machine
with_now m l = record { next = m.next; now = l; saved = m.saved; half = m.half }

abbrev pub set_register : Machine → ℕ → Term → Machine
set_register m d t = with_now m (record { values = m.now.values; registers = change m.now.registers d t })

-- the term of a register as it stands in the register, and with the values of its variables put in
abbrev pub register : Machine → ℕ → Term
register m s = pick m.now.registers s

abbrev pub value : Machine → ℕ → Term
value m s = apply m.now.values (register m s)

-- what the slip of the half-made structure says
abbrev pub draft_of : Begun → Draft
draft_of b = record { name = b.name; arity = b.arity; missing = b.arity - long b.arguments }

abbrev pub draft : Machine → Option Draft
draft m = elim m.half [ None ↦ None | Some b ↦ Some (draft_of b) ]

abbrev pub seen_label : Label → Seen
seen_label (named n) = SeenAtom n
seen_label (whole z) = SeenInteger z
seen_label (functor name arity) = Structure (functor_value name arity)

abbrev pub seen : Term → Seen
seen (var n) = Variable
seen (node l ts) = seen_label l

-- argument i of a term, counted from 1
abbrev pub argument_of : Term → ℕ → Option Term
argument_of (var n) i = None
argument_of (node l ts) zero = None
argument_of (node l ts) (suc i) = cond (nat_lt i (long ts)) (Some (pick ts i)) None

abbrev pub lacks_argument : Machine → ℕ → ℕ → Bool
lacks_argument m s i = elim (argument_of (value m s) i) [ None ↦ true | Some t ↦ false ]

abbrev pub set_argument : Machine → ℕ → Option Term → Answer × Machine
set_argument m d None = (Nothing, m)
set_argument m d (Some t) = (Nothing, set_register m d t)

-- without a unifier nothing changes
abbrev pub if_unified : Machine → Option Subst → Answer × Machine
if_unified m None = (Tells No, m)
if_unified m (Some σ) = (Tells Yes, with_now m (record { values = σ; registers = m.now.registers }))

-- back to the newest saved level, which `rest` says what becomes of
abbrev pub back : (Level → List Level → List Level) → List Level → Machine → Machine
back rest [] m = m
back rest (l ∷ ls) m = record { next = m.next; now = l; saved = rest l ls; half = m.half }

-- one argument more, and perhaps a new variable
abbrev pub write : Machine → Term → ℕ → Begun → Answer × Machine
write m t new b =
    let more : Begun = record { name = b.name; arity = b.arity; arguments = joined b.arguments (cons t nil) } in
    (Hands (draft_of more), record { next = m.next + new; now = m.now; saved = m.saved; half = Some more })

abbrev pub with_half : Machine → Option Begun → Machine
with_half m half = record { next = m.next; now = m.now; saved = m.saved; half = half }

abbrev pub on_half : Machine → (Begun → Answer × Machine) → Answer × Machine
on_half m f = elim m.half [ None ↦ (Nothing, m) | Some b ↦ f b ]

-- An accepted call. Collect and usage do nothing; what usage answers is not compared.
abbrev pub act : Call → Machine → Answer × Machine
act (Var d) m = (Nothing, set_register (record { next = suc m.next; now = m.now; saved = m.saved; half = m.half }) d (var m.next))
act (SetAtom d n) m = (Nothing, set_register m d (node (named n) nil))
act (Int d z) m = (Nothing, set_register m d (node (whole z) nil))
act (Move d s) m = (Nothing, set_register m d (register m s))
act (Look s) m = (Sees (seen (value m s)), m)
act (Arg d s i) m = set_argument m d (argument_of (value m s) i)
act (Same a b) m = (Tells (verdict (same_tree (value m a) (value m b))), m)
act (Unify a b) m = if_unified m (unify m.now.values (register m a) (register m b))
act Open m = (Nothing, record { next = m.next; now = m.now; saved = m.now ∷ m.saved; half = m.half })
act Retry m = (Nothing, back (λ l ls. l ∷ ls) m.saved m)
act Last m = (Nothing, back (λ l ls. ls) m.saved m)
act (Cut k) m = (Nothing, record { next = m.next; now = m.now; saved = drop (length m.saved - k) m.saved; half = m.half })
act (Start name arity) m =
    let b : Begun = record { name = name; arity = arity; arguments = nil } in
    (Hands (draft_of b), with_half m (Some b))
act (Put slip s) m = on_half m (write m (register m s) 0)
act (Hole slip) m = on_half m (write m (var m.next) 1)
act (Done slip d) m = on_half m (λ b. (Nothing, set_register (with_half m None) d (node (functor b.name b.arity) b.arguments)))
act (Void slip) m = on_half m (λ b. (Nothing, with_half m None))
act Collect m = (Nothing, m)
act Usage m = (Nothing, m)

abbrev pub unless : Option Refusal → Machine → Answer × Machine → Answer × Machine
unless None m r = r
unless (Some why) m r = (Refused why, m)

abbrev pub step : Call → Machine → Answer × Machine
step c m = unless (refusal (draft m) (length m.saved) (lacks_argument m) c) m (act c m)

-- What a loaded image gives: for the present and for each choice point undone the terms spelled, with an unbound
-- cell c as variable c and no variable with a value; the next number is the number of used cells.
abbrev pub level_of : Tables → Level
level_of t = record { values = var; registers = spelled t }

abbrev pub levels : List Choice → Tables → List Level
levels [] t = []
levels (c ∷ cs) t = level_of (last t) ∷ levels cs (last t)

abbrev pub loaded : Tables → Machine
loaded t = record { next = used t; now = level_of t; saved = levels t.choices t; half = None }

-- atom 0 in each register, next number 0, and nothing else
abbrev pub set_up_machine : Machine
set_up_machine = record { next = 0; now = record { values = var; registers = row (λ w. w) (replicate 8 (node (named 0) nil)) }; saved = []; half = None }
