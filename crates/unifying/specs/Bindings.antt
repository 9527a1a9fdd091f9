-- What unifying has bound so far, and one more step of it.
use Rattle.std.specs.Prelude.{◌≡◌, ℕ, ◌<◌, ◌≤◌, Bool, true, false, ◌⊎◌, List, ◌∷◌, length, None}
use Rattle.cells.specs.declared.cell.Cell.{Cell}
use Rattle.cells.specs.declared.cell.Cell.TheVariants.{Reference}
use Rattle.tables.specs.Tables.{Tables, used}
use Rattle.marks.specs.Sets.{count_below}
use Rattle.heaps.specs.Lists.{is_in}
use Rattle.heaps.specs.Leads.{heap_of, unbound}
use Rattle.heaps.specs.LevelLaws.{Stands, Keeps}
use Rattle.calls.specs.Unifying.{Pair, rows, stop, go, meet}
use Rattle.binding.specs.Unbinding.{unbind_to}

-- The listed cells are in use and bound, and they are different.
pub record Noted (t : Tables) (cells : List ℕ) : Type 0 where
  pub bound : (k : ℕ) → is_in k cells ≡ true → (k < used t) × (unbound (heap_of t.heap) k ≡ false)
  pub apart : length cells ≤ count_below (λ k. is_in k cells) 4096

-- From the tables t with the bound cells bs to the tables u with the bound cells cs: what could stand in a register still
-- can, and giving up the bindings leads back to the same tables.
pub record Stepped (t : Tables) (bs : List ℕ) (u : Tables) (cs : List ℕ) : Type 0 where
  pub stands : Stands u
  pub keeps : (d : Cell) → Keeps t d → Keeps u d
  pub noted : Noted u cs
  pub longer : length t.trail ≤ length u.trail
  pub back : (top : ℕ) → top ≤ length t.trail → unbind_to u cs top ≡ unbind_to t bs top

-- The word ends a chain: it is no reference to a bound cell.
abbrev pub EndsChain : Tables → Cell → Type 0
EndsChain t a = (n : ℕ) → a ≡ Reference n → unbound (heap_of t.heap) n ≡ true

-- Two words that end their chains have met: the answer is yes, and the tables are u; or it is no.
pub data Met (t u : Tables) (a b : Cell) : Bool → Type 0 where
  goes : ((ps : List Pair) → (meet t a b ps ≡ go u ps) ⊎ (meet t a b ps ≡ go u (rows 0 0 0 ∷ ps))) → Met t u a b true
  stops : ((ps : List Pair) → meet t a b ps ≡ stop None) → Met t u a b false
