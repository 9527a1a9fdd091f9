-- Binding an unbound cell, and the record that lets it be undone.
use Rattle.std.specs.Prelude.{ℕ, Bool, false, cond, List, [], ◌∷◌, ◌++◌, nat_lt, slice_set}
use Rattle.cells.specs.declared.cell.Cell.{Cell}
use Rattle.tables.specs.Tables.{Choice, Tables}

-- A cell joins the trail exactly when a choice point exists and the cell is below the newest one's heap top.
abbrev pub trailed : List Choice → ℕ → Bool
trailed [] x = false
trailed (c ∷ cs) x = nat_lt x c.heap_top

-- cell x takes the word w
abbrev pub bind : Tables → ℕ → Cell → Tables
bind t x w =
    record {
      heap = slice_set t.heap x w;
      registers = t.registers;
      trail = cond (trailed t.choices x) (t.trail ++ (x ∷ [])) t.trail;
      choices = t.choices;
    }
