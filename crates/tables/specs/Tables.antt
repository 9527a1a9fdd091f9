-- The tables of a store as lists, and the changes that their memory can make to them.
use Rattle.std.specs.Prelude.{ℕ, ◌-◌, List, [], ◌∷◌, ◌++◌, length, take, drop, replicate, slice_index_or, slice_set}
use Rattle.cells.specs.declared.cell.Cell.{Cell}
use Rattle.cells.specs.declared.cell.Cell.TheVariants.{Reference, Atom}
use Rattle.tables.specs.declared.usage.Usage.{Usage}

-- a choice point: the saved registers, and how many cells and trail entries there were when it was opened
pub record Choice : Type 0 where
  pub saved : List Cell
  pub heap_top : ℕ
  pub trail_top : ℕ

-- the cells in use, the registers X0 to X7, the trail from its oldest entry on, the choice points from the newest on
pub record Tables : Type 0 where
  pub heap : List Cell
  pub registers : List Cell
  pub trail : List ℕ
  pub choices : List Choice

abbrev pub used : Tables → ℕ
used t = length t.heap

abbrev pub usage_of : Tables → Usage
usage_of t = record { used = used t; entries = length t.trail; points = length t.choices }

-- what a cell holds; a cell that is not in use counts as an unbound variable
abbrev pub cell_at : Tables → ℕ → Cell
cell_at t i = slice_index_or t.heap i (Reference i)

abbrev pub register : Tables → ℕ → Cell
register t r = slice_index_or t.registers r (Atom 0)

-- no cells, and atom 0 in each register
abbrev pub set_up : Tables
set_up = record { heap = []; registers = replicate 8 (Atom 0); trail = []; choices = [] }

abbrev pub with_heap : Tables → List Cell → Tables
with_heap t cells = record { heap = cells; registers = t.registers; trail = t.trail; choices = t.choices }

abbrev pub with_registers : Tables → List Cell → Tables
with_registers t cells = record { heap = t.heap; registers = cells; trail = t.trail; choices = t.choices }

abbrev pub with_trail : Tables → List ℕ → Tables
with_trail t entries = record { heap = t.heap; registers = t.registers; trail = entries; choices = t.choices }

abbrev pub with_choices : Tables → List Choice → Tables
with_choices t choices = record { heap = t.heap; registers = t.registers; trail = t.trail; choices = choices }

abbrev pub set_cell : Tables → ℕ → Cell → Tables
set_cell t i c = with_heap t (slice_set t.heap i c)

abbrev pub push_cell : Tables → Cell → Tables
push_cell t c = with_heap t (t.heap ++ (c ∷ []))

abbrev pub cut_heap : Tables → ℕ → Tables
cut_heap t n = with_heap t (take n t.heap)

abbrev pub set_register : Tables → ℕ → Cell → Tables
set_register t r c = with_registers t (slice_set t.registers r c)

abbrev pub set_entry : Tables → ℕ → ℕ → Tables
set_entry t i n = with_trail t (slice_set t.trail i n)

abbrev pub push_entry : Tables → ℕ → Tables
push_entry t n = with_trail t (t.trail ++ (n ∷ []))

abbrev pub cut_trail : Tables → ℕ → Tables
cut_trail t n = with_trail t (take n t.trail)

-- what a choice point opened now would save
abbrev pub present : Tables → Choice
present t = record { saved = t.registers; heap_top = used t; trail_top = length t.trail }

abbrev pub push_choice : Tables → Tables
push_choice t = with_choices t (present t ∷ t.choices)

-- the k oldest choice points are kept
abbrev pub keep_choices : Tables → ℕ → Tables
keep_choices t k = with_choices t (drop (length t.choices - k) t.choices)

-- stands where there is no choice point
abbrev pub no_choice : Choice
no_choice = record { saved = replicate 8 (Atom 0); heap_top = 0; trail_top = 0 }

-- the k-th choice point, counted from the newest, which is the 0th
abbrev pub choice_at : Tables → ℕ → Choice
choice_at t k = slice_index_or t.choices k no_choice

abbrev pub set_choice : Tables → ℕ → Choice → Tables
set_choice t k c = with_choices t (slice_set t.choices k c)

abbrev pub with_saved : Choice → ℕ → Cell → Choice
with_saved c r w = record { saved = slice_set c.saved r w; heap_top = c.heap_top; trail_top = c.trail_top }

abbrev pub with_tops : Choice → ℕ → ℕ → Choice
with_tops c h e = record { saved = c.saved; heap_top = h; trail_top = e }
