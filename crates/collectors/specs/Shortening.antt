-- Shortening of reference chains: a reference, in heap, register or saved register, is replaced by the word of its
-- target while that target is bound and not on the trail.
use Rattle.std.specs.Prelude.{ℕ, zero, suc, cond, ◌||◌, List, map}
use Rattle.cells.specs.declared.cell.Cell.{Cell}
use Rattle.cells.specs.declared.cell.Cell.TheVariants.{Reference, Pointer, Functor, Atom, Integer}
use Rattle.tables.specs.Tables.{Choice, Tables, used}
use Rattle.heaps.specs.Lists.{is_in}
use Rattle.heaps.specs.Leads.{Heap, heap_of, unbound}

-- so many replacements at most
abbrev pub short_by : ℕ → Heap → List ℕ → Cell → Cell
short_by zero h trail w = w
short_by (suc g) h trail (Reference n) = cond (unbound h n || is_in n trail) (Reference n) (short_by g h trail (h n))
short_by (suc g) h trail (Pointer n) = Pointer n
short_by (suc g) h trail (Functor name arity) = Functor name arity
short_by (suc g) h trail (Atom n) = Atom n
short_by (suc g) h trail (Integer z) = Integer z

-- a chain has at most as many references as there are cells
abbrev pub short : Tables → Cell → Cell
short t w = short_by (used t) (heap_of t.heap) t.trail w

abbrev pub short_choice : Tables → Choice → Choice
short_choice t c = record { saved = map (short t) c.saved; heap_top = c.heap_top; trail_top = c.trail_top }

abbrev pub shorten : Tables → Tables
shorten t =
    record {
      heap = map (short t) t.heap;
      registers = map (short t) t.registers;
      trail = t.trail;
      choices = map choice t.choices;
    }
  where
    choice : Choice → Choice
    choice c = record { saved = map (short t) c.saved; heap_top = c.heap_top; trail_top = c.trail_top }
