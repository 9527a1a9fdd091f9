-- The first trail entry and the first choice point at fault.
use Rattle.std.specs.Prelude.{ℕ, length, Option}
use Rattle.tables.specs.Tables.{Tables, used}
use Rattle.heaps.specs.Leads.{heap_of}
use Rattle.heaps.specs.RuleTests.{stray_entry, leaks, oldest, lowest_from}

-- the first entry that names a wrong cell, or the same cell as an earlier entry
abbrev pub first_stray_entry : Tables → Option ℕ
first_stray_entry t = lowest_from 0 (length t.trail) (stray_entry (heap_of t.heap) (used t) t.trail)

-- the oldest choice point that sees past its heap top, counted from the oldest, which is the 0th
abbrev pub first_leak : Tables → Option ℕ
first_leak t = lowest_from 0 (length t.choices) (λ p. leaks t.heap t.trail (oldest t p))
