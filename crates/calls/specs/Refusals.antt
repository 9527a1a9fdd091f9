-- When a call is refused, and with what. The tests of a call run in the order of the refusals' numbers, and the first
-- that hits is answered. The store and the tree machine share these tests, but for want of cells, which only a store knows.
use Rattle.std.specs.Option.{is_some}
use Rattle.std.specs.Prelude.{ℕ, suc, Bool, true, cond, not, ◌&&◌, ◌||◌, List, [], ◌∷◌, ◌==◌, nat_le, nat_lt, Option, Some, None}
use Rattle.cells.specs.declared.cell.Cell.TheVariants.{Functor, Atom, Integer}
use Rattle.cells.specs.declared.refusal.Refusal.{Refusal}
use Rattle.cells.specs.declared.refusal.Refusal.TheVariants.{HalfMade, WrongSlip, NoRegister, OutOfRange, WrongCount, NoArgument, ChoicesFull, NoChoice}
use Rattle.cells.specs.Cells.{in_range}
use Rattle.calls.specs.declared.Draft.{Draft}
use Rattle.calls.specs.declared.Call.{Call}
use Rattle.calls.specs.declared.Call.TheVariants.{Var, Atom as SetAtom, Int, Move, Look, Arg, Same, Unify, Open, Retry, Last, Cut, Start, Put, Hole, Done, Void, Collect, Usage}

abbrev pub first_hit : List (Refusal × Bool) → Option Refusal
first_hit [] = None
first_hit (x ∷ xs) = cond x.1 (Some x.0) (first_hit xs)

-- a register above 7
abbrev pub no_register : ℕ → Bool
no_register r = nat_lt 7 r

-- Slips are compared by functor and number of missing arguments.
abbrev pub same_draft : Draft → Draft → Bool
same_draft a b = a.name == b.name && (a.arity == b.arity && a.missing == b.missing)

-- the slip differs from the half-made structure, or there is none
abbrev pub wrong_slip : Option Draft → Draft → Bool
wrong_slip None slip = true
wrong_slip (Some half) slip = not (same_draft half slip)

-- The tests of a call, in their order.
-- half: what a slip of the half-made structure would say, if there is one; points: the number of choice points;
-- lacks s i: Xs is no structure, or has no argument i
abbrev pub tests : Option Draft → ℕ → (ℕ → ℕ → Bool) → Call → List (Refusal × Bool)
tests half points lacks (Var d) = (HalfMade, is_some half) ∷ (NoRegister, no_register d) ∷ []
tests half points lacks (SetAtom d n) = (HalfMade, is_some half) ∷ (NoRegister, no_register d) ∷ (OutOfRange, not (in_range (Atom n))) ∷ []
tests half points lacks (Int d z) = (HalfMade, is_some half) ∷ (NoRegister, no_register d) ∷ (OutOfRange, not (in_range (Integer z))) ∷ []
tests half points lacks (Move d s) = (HalfMade, is_some half) ∷ (NoRegister, no_register d || no_register s) ∷ []
tests half points lacks (Look s) = (HalfMade, is_some half) ∷ (NoRegister, no_register s) ∷ []
tests half points lacks (Arg d s i) = (HalfMade, is_some half) ∷ (NoRegister, no_register d || no_register s) ∷ (NoArgument, lacks s i) ∷ []
tests half points lacks (Same s t) = (HalfMade, is_some half) ∷ (NoRegister, no_register s || no_register t) ∷ []
tests half points lacks (Unify s t) = (HalfMade, is_some half) ∷ (NoRegister, no_register s || no_register t) ∷ []
tests half points lacks Open = (HalfMade, is_some half) ∷ (ChoicesFull, nat_le 64 points) ∷ []
tests half points lacks Retry = (HalfMade, is_some half) ∷ (NoChoice, (points == 0)) ∷ []
tests half points lacks Last = (HalfMade, is_some half) ∷ (NoChoice, (points == 0)) ∷ []
tests half points lacks (Cut k) = (HalfMade, is_some half) ∷ (NoChoice, nat_lt points k) ∷ []
tests half points lacks (Start name arity) = (HalfMade, is_some half) ∷ (OutOfRange, not (in_range (Functor name arity))) ∷ []
tests half points lacks (Put slip s) = (WrongSlip, wrong_slip half slip) ∷ (NoRegister, no_register s) ∷ (WrongCount, (slip.missing == 0)) ∷ []
tests half points lacks (Hole slip) = (WrongSlip, wrong_slip half slip) ∷ (WrongCount, (slip.missing == 0)) ∷ []
tests half points lacks (Done slip d) = (WrongSlip, wrong_slip half slip) ∷ (NoRegister, no_register d) ∷ (WrongCount, nat_lt 0 slip.missing) ∷ []
tests half points lacks (Void slip) = (WrongSlip, wrong_slip half slip) ∷ []
tests half points lacks Collect = (HalfMade, is_some half) ∷ []
tests half points lacks Usage = []

abbrev pub refusal : Option Draft → ℕ → (ℕ → ℕ → Bool) → Call → Option Refusal
refusal half points lacks c = first_hit (tests half points lacks c)

-- the cells that a call takes
abbrev pub cells_needed : Call → ℕ
cells_needed (Var d) = 1
cells_needed (SetAtom d n) = 0
cells_needed (Int d z) = 0
cells_needed (Move d s) = 0
cells_needed (Look s) = 0
cells_needed (Arg d s i) = 0
cells_needed (Same s t) = 0
cells_needed (Unify s t) = 0
cells_needed Open = 0
cells_needed Retry = 0
cells_needed Last = 0
cells_needed (Cut k) = 0
cells_needed (Start name arity) = suc arity
cells_needed (Put slip s) = 0
cells_needed (Hole slip) = 0
cells_needed (Done slip d) = 0
cells_needed (Void slip) = 0
cells_needed Collect = 0
cells_needed Usage = 0
