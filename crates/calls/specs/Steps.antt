-- What each call answers and what it makes of the tables.
use Rattle.std.specs.Prelude.{ℕ, suc, pred, ◌+◌, ◌-◌, Bool, true, false, cond, ◌||◌, ◌∷◌, ◌++◌, length, replicate, ◌==◌, nat_lt, Option, Some, None}
use Rattle.cells.specs.declared.cell.Cell.{Cell}
use Rattle.cells.specs.declared.cell.Cell.TheVariants.{Reference, Pointer, Functor, Atom, Integer}
use Rattle.cells.specs.declared.refusal.Refusal.{Refusal}
use Rattle.cells.specs.declared.refusal.Refusal.TheVariants.{NoCells}
use Rattle.cells.specs.declared.answer.Seen.{Seen}
use Rattle.cells.specs.declared.answer.Seen.TheVariants.{Variable, Atom as SeenAtom, Integer as SeenInteger, Structure}
use Rattle.cells.specs.declared.answer.Verdict.TheVariants.{No, Yes}
pub use Rattle.cells.specs.Answers.{verdict}
use Rattle.cells.specs.Cells.{functor_value}
use Rattle.tables.specs.Tables.{Tables, used, usage_of, cell_at, register, with_heap, set_cell, push_cell, cut_heap, set_register, push_choice, keep_choices}
use Rattle.terms.specs.Terms.{same_tree}
use Rattle.heaps.specs.Spelling.{arity_of, spell}
use Rattle.heaps.specs.Levels.{last, retry}
use Rattle.heaps.specs.Ends.{end}
use Rattle.calls.specs.declared.Draft.{Draft}
use Rattle.calls.specs.declared.Call.{Call}
use Rattle.calls.specs.declared.Call.TheVariants.{Var, Atom as SetAtom, Int, Move, Look, Arg, Same, Unify, Open, Retry, Last, Cut, Start, Put, Hole, Done, Void, Collect, Usage}
use Rattle.calls.specs.declared.Answer.{Answer}
use Rattle.calls.specs.declared.Answer.TheVariants.{Nothing, Refused, Sees, Tells, Hands, Counts}
use Rattle.calls.specs.Refusals.{refusal, cells_needed}
use Rattle.calls.specs.Unifying.{unify_words}

-- a structure that is half made: its functor's cell, and how many arguments are still to be written
pub record Half : Type 0 where
  pub at : ℕ
  pub missing : ℕ

pub record State : Type 0 where
  pub tables : Tables
  pub half : Option Half

abbrev pub keeping : State → Tables → State
keeping s t = record { tables = t; half = s.half }

abbrev pub name_of : Cell → ℕ
name_of (Reference n) = 0
name_of (Pointer n) = 0
name_of (Functor name arity) = name
name_of (Atom n) = 0
name_of (Integer z) = 0

-- what the slip of a half-made structure says
abbrev pub draft_of : Tables → Half → Draft
draft_of t h = record { name = name_of (cell_at t h.at); arity = arity_of (cell_at t h.at); missing = h.missing }

abbrev pub draft : State → Option Draft
draft s = elim s.half [ None ↦ None | Some h ↦ Some (draft_of s.tables h) ]

-- what is seen at the end of a chain
abbrev pub seen_at : Tables → Cell → Seen
seen_at t (Reference n) = Variable
seen_at t (Pointer n) = Structure (functor_value (name_of (cell_at t n)) (arity_of (cell_at t n)))
seen_at t (Functor name arity) = Variable
seen_at t (Atom n) = SeenAtom n
seen_at t (Integer z) = SeenInteger z

-- the cell of argument i of the structure at the end of a chain, counted from 1
abbrev pub argument_of : Tables → Cell → ℕ → Option ℕ
argument_of t (Reference n) i = None
argument_of t (Pointer n) i = cond (i == 0 || nat_lt (arity_of (cell_at t n)) i) None (Some (n + i))
argument_of t (Functor name arity) i = None
argument_of t (Atom n) i = None
argument_of t (Integer z) i = None

abbrev pub argument : Tables → ℕ → ℕ → Option ℕ
argument t s i = argument_of t (end t (register t s)) i

abbrev pub lacks_argument : Tables → ℕ → ℕ → Bool
lacks_argument t s i = elim (argument t s i) [ None ↦ true | Some n ↦ false ]

abbrev pub set_argument : State → ℕ → Option ℕ → Answer × State
set_argument s d None = (Nothing, s)
set_argument s d (Some n) = (Nothing, keeping s (set_register s.tables d (cell_at s.tables n)))

abbrev pub if_unified : State → Option Tables → Answer × State
if_unified s None = (Tells No, s)
if_unified s (Some t) = (Tells Yes, keeping s t)

-- the cell of the next argument to be written
abbrev pub next_argument : Tables → Half → ℕ
next_argument t h = suc h.at + (arity_of (cell_at t h.at) - h.missing)

-- the next argument is written, and the slip says one fewer missing
abbrev pub write : State → Cell → Half → Answer × State
write s w h =
    let t = set_cell s.tables (next_argument s.tables h) w in
    let rest : Half = record { at = h.at; missing = pred h.missing } in
    (Hands (draft_of t rest), record { tables = t; half = Some rest })

abbrev pub on_half : State → (Half → Answer × State) → Answer × State
on_half s f = elim s.half [ None ↦ (Nothing, s) | Some h ↦ f h ]

abbrev pub usage : Tables → Answer
usage t = Counts (usage_of t)

-- An accepted call. `left` is what a collector leaves.
abbrev pub act : Call → Tables → State → Answer × State
act (Var d) left s = let t = s.tables in (Nothing, keeping s (set_register (push_cell t (Reference (used t))) d (Reference (used t))))
act (SetAtom d n) left s = (Nothing, keeping s (set_register s.tables d (Atom n)))
act (Int d z) left s = (Nothing, keeping s (set_register s.tables d (Integer z)))
act (Move d r) left s = (Nothing, keeping s (set_register s.tables d (register s.tables r)))
act (Look r) left s = (Sees (seen_at s.tables (end s.tables (register s.tables r))), s)
act (Arg d r i) left s = set_argument s d (argument s.tables r i)
act (Same a b) left s = let t = s.tables in (Tells (verdict (same_tree (spell t.heap (register t a)) (spell t.heap (register t b)))), s)
act (Unify a b) left s = let t = s.tables in if_unified s (unify_words t (register t a) (register t b))
act Open left s = (Nothing, keeping s (push_choice s.tables))
act Retry left s = (Nothing, keeping s (retry s.tables))
act Last left s = (Nothing, keeping s (last s.tables))
act (Cut k) left s = (Nothing, keeping s (keep_choices s.tables k))
act (Start name arity) left s =
    let t = s.tables in (
      Hands (record { name = name; arity = arity; missing = arity }),
      record { tables = with_heap t (t.heap ++ (Functor name arity ∷ replicate arity (Atom 0))); half = Some (record { at = used t; missing = arity }) },
    )
act (Put slip r) left s = on_half s (write s (register s.tables r))
act (Hole slip) left s = on_half s (λ h. write s (Reference (next_argument s.tables h)) h)
act (Done slip d) left s = on_half s (λ h. (Nothing, record { tables = set_register s.tables d (Pointer h.at); half = None }))
act (Void slip) left s = on_half s (λ h. (Nothing, record { tables = cut_heap s.tables h.at; half = None }))
act Collect left s = (Nothing, keeping s left)
act Usage left s = (usage s.tables, s)

-- a refused call changes nothing
abbrev pub unless : Option Refusal → Bool → State → Answer × State → Answer × State
unless (Some why) full s r = (Refused why, s)
unless None true s r = (Refused NoCells, s)
unless None false s r = r

abbrev pub refusal_of : Call → State → Option Refusal
refusal_of c s = refusal (draft s) (length s.tables.choices) (lacks_argument s.tables) c

-- one call; want of cells is tested last
abbrev pub step : Call → Tables → State → Answer × State
step c left s = unless (refusal_of c s) (nat_lt 4096 (used s.tables + cells_needed c)) s (act c left s)
