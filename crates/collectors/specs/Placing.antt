-- Tables whose reached cells are placed in a new order.
use Rattle.std.specs.Prelude.{ℕ, zero, suc, Bool, cond, List, [], ◌∷◌, map, length, take, ◌==◌}
use Rattle.tables.specs.Tables.{Choice, Tables, cell_at}
use Rattle.heaps.specs.Leads.{relocate}
use Rattle.heaps.specs.Reached.{is_reached}

-- the m numbers from n on
abbrev pub numbers : ℕ → ℕ → List ℕ
numbers n zero = []
numbers n (suc m) = n ∷ numbers (suc n) m

abbrev pub kept : (ℕ → Bool) → List ℕ → List ℕ
kept p [] = []
kept p (x ∷ xs) = cond (p x) (x ∷ kept p xs) (kept p xs)

-- where a number stands in a list
abbrev pub place_in : List ℕ → ℕ → ℕ
place_in [] i = 0
place_in (x ∷ xs) i = cond (x == i) 0 (suc (place_in xs i))

-- a choice point of the new tables: `top` says what becomes of a heap top, and the trail top is lowered by the entries dropped
abbrev pub placed_choice : List ℕ → (ℕ → ℕ) → Tables → Choice → Choice
placed_choice order top t c =
    record {
      saved = map (relocate (place_in order)) c.saved;
      heap_top = top c.heap_top;
      trail_top = length (kept (is_reached t) (take c.trail_top t.trail));
    }

-- The cells of the list `order` become cells 0, 1, 2 .. of the new heap, every word that leads to one leads to where
-- it stands now, trail entries of other cells are dropped, and trail tops are lowered to match.
abbrev pub placed : List ℕ → (ℕ → ℕ) → Tables → Tables
placed order top t =
    record {
      heap = map (λ i. relocate (place_in order) (cell_at t i)) order;
      registers = map (relocate (place_in order)) t.registers;
      trail = map (place_in order) (kept (is_reached t) t.trail);
      choices = map choice t.choices;
    }
  where
    choice : Choice → Choice
    choice c =
        record {
          saved = map (relocate (place_in order)) c.saved;
          heap_top = top c.heap_top;
          trail_top = length (kept (is_reached t) (take c.trail_top t.trail));
        }
