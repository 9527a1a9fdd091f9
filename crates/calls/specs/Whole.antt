-- What every state of a store keeps. While no structure is half made, the tables keep the rules and fit the memory.
-- A half-made structure is the newest part of the heap, and the tables without it keep the rules and fit.
use Rattle.std.specs.Prelude.{◌≡◌, suc, ◌+◌, ◌-◌, ◌≤◌, true, List, take, drop, replicate, Option, Some, None}
use Rattle.cells.specs.declared.cell.Cell.{Cell}
use Rattle.cells.specs.declared.cell.Cell.TheVariants.{Atom}
use Rattle.cells.specs.Cells.{in_range}
use Rattle.tables.specs.Tables.{Tables, used, cell_at, cut_heap}
use Rattle.heaps.specs.Leads.{is_functor}
use Rattle.heaps.specs.Spelling.{arity_of}
use Rattle.heaps.specs.LevelLaws.{Stands, ArgumentsKeep}
use Rattle.calls.specs.Steps.{Half, State, next_argument}

-- the tables without the half-made structure
abbrev pub without : Tables → Half → Tables
without t h = cut_heap t h.at

-- the arguments that are written, and the cells of those that are missing
abbrev pub written : Tables → Half → List Cell
written t h = take (arity_of (cell_at t h.at) - h.missing) (drop (suc h.at) t.heap)

abbrev pub unwritten : Tables → Half → List Cell
unwritten t h = drop (next_argument t h) t.heap

-- The structure is a functor in range with its arguments, of which so many are missing; nothing comes after it.
-- A written argument may stand in a register of the tables without the structure, or is a new unbound variable;
-- a missing one is atom 0.
pub record HalfStands (t : Tables) (h : Half) : Type 0 where
  pub functor : is_functor (cell_at t h.at) ≡ true
  pub range : in_range (cell_at t h.at) ≡ true
  pub top : used t ≡ suc h.at + arity_of (cell_at t h.at)
  pub room : used t ≤ 4096
  pub few : h.missing ≤ arity_of (cell_at t h.at)
  pub before : Stands (without t h)
  pub arguments : ArgumentsKeep (without t h) (suc h.at) (written t h)
  pub blank : unwritten t h ≡ replicate h.missing (Atom 0)
  deriving IsProp as HalfStands-prop

abbrev pub WholeWith : Tables → Option Half → Type 0
WholeWith t None = Stands t
WholeWith t (Some h) = HalfStands t h

abbrev pub Whole : State → Type 0
Whole s = WholeWith s.tables s.half
