-- Giving up bindings that were made since the trail had `top` entries.
use Rattle.std.specs.Prelude.{ℕ, List, reverse}
use Rattle.tables.specs.Tables.{Tables, with_heap, cut_trail}
use Rattle.heaps.specs.Levels.{unbind_all}

-- the cells, listed from the first bound to the last, are made unbound from the last to the first, and the trail is cut
abbrev pub unbind_to : Tables → List ℕ → ℕ → Tables
unbind_to t cells top = cut_trail (with_heap t (unbind_all t.heap (reverse cells))) top
