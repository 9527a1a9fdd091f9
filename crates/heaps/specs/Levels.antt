-- Undoing: what each choice point sees.
use Rattle.std.specs.Prelude.{ℕ, zero, suc, List, [], ◌∷◌, take, drop, slice_set}
use Rattle.cells.specs.declared.cell.Cell.{Cell}
use Rattle.cells.specs.declared.cell.Cell.TheVariants.{Reference}
use Rattle.tables.specs.Tables.{Choice, Tables}

-- the cells that the entries name are made unbound
abbrev pub unbind_all : List Cell → List ℕ → List Cell
unbind_all cells [] = cells
unbind_all cells (e ∷ es) = unbind_all (slice_set cells e (Reference e)) es

-- the heap as a choice point sees it: the trail entries from its trail top on are undone
abbrev pub seen_from : Choice → List Cell → List ℕ → List Cell
seen_from c cells trail = unbind_all cells (drop c.trail_top trail)

-- back to where the choice point c was opened, with the choice points cs
abbrev pub back_to : Choice → List Choice → Tables → Tables
back_to c cs t =
    record {
      heap = take c.heap_top (seen_from c t.heap t.trail);
      registers = c.saved;
      trail = take c.trail_top t.trail;
      choices = cs;
    }

abbrev pub last_of : List Choice → Tables → Tables
last_of [] t = t
last_of (c ∷ cs) t = back_to c cs t

-- back to the newest choice point, which is removed
abbrev pub last : Tables → Tables
last t = last_of t.choices t

abbrev pub retry_of : List Choice → Tables → Tables
retry_of [] t = t
retry_of (c ∷ cs) t = back_to c (c ∷ cs) t

-- back to the newest choice point, which stays
abbrev pub retry : Tables → Tables
retry t = retry_of t.choices t

-- the tables after undoing k choice points by last
abbrev pub undo : Tables → ℕ → Tables
undo t zero = t
undo t (suc k) = undo (last t) k
