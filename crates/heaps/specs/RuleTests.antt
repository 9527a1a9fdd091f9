-- Which places of tables are at fault: for each rule a test of the places that it speaks of,
-- and the fault of tables, which is the lowest broken rule with its lowest line at fault.
use Rattle.std.specs.Prelude.{ℕ, zero, suc, ◌+◌, ◌-◌, ◌*◌, ◌/◌, ◌%◌, Bool, false, cond, not, ◌&&◌, ◌||◌, leb, List, [], ◌∷◌, length, take, Some, None, Option, nat_le, nat_lt, slice_index, slice_index_or}
use Rattle.cells.specs.declared.cell.Cell.{Cell}
use Rattle.cells.specs.declared.cell.Cell.TheVariants.{Reference, Pointer, Functor, Atom, Integer}
use Rattle.tables.specs.Tables.{Choice, Tables, used, choice_at}
use Rattle.heaps.specs.declared.rule.Rule.{Rule}
use Rattle.heaps.specs.declared.rule.Rule.TheVariants.{References, Pointers, Arguments, Registers, Trail, Tops, Cycles, Levels}
use Rattle.heaps.specs.declared.rule.Fault.{Fault}
use Rattle.heaps.specs.Lists.{is_in}
use Rattle.heaps.specs.Leads.{Heap, heap_of, first, many, unbound, is_functor}
use Rattle.heaps.specs.Levels.{seen_from}
use Rattle.heaps.specs.Reached.{any_from, within}

-- The tests, for a heap h with n cells in use.

-- Rule 1: a reference leads to no cell in use, or to a functor.
abbrev pub stray_reference : Heap → ℕ → Cell → Bool
stray_reference h n (Reference m) = nat_le n m || is_functor (h m)
stray_reference h n (Pointer m) = false
stray_reference h n (Functor name arity) = false
stray_reference h n (Atom a) = false
stray_reference h n (Integer z) = false

-- Rule 2: a pointer leads to no cell in use, or to no functor.
abbrev pub stray_pointer : Heap → ℕ → Cell → Bool
stray_pointer h n (Reference m) = false
stray_pointer h n (Pointer m) = nat_le n m || not (is_functor (h m))
stray_pointer h n (Functor name arity) = false
stray_pointer h n (Atom a) = false
stray_pointer h n (Integer z) = false

-- Rule 3: an argument cell of a functor in cell i is not in use, or holds a functor.
abbrev pub lacks_argument : Heap → ℕ → ℕ → Cell → Bool
lacks_argument h n i (Reference m) = false
lacks_argument h n i (Pointer m) = false
lacks_argument h n i (Functor name arity) = any_from (suc i) arity (λ j. nat_le n j || is_functor (h j))
lacks_argument h n i (Atom a) = false
lacks_argument h n i (Integer z) = false

-- Rule 4: a register's word is a functor, or breaks rule 1 or 2.
abbrev pub stray_word : Heap → ℕ → Cell → Bool
stray_word h n w = is_functor w || (stray_reference h n w || stray_pointer h n w)

-- Rule 5: a trail entry names a cell that is not in use, unbound or a functor.
abbrev pub misnames : Heap → ℕ → ℕ → Bool
misnames h n e = nat_le n e || (unbound h e || is_functor (h e))

-- Or it names the same cell as an earlier entry.
abbrev pub stray_entry : Heap → ℕ → List ℕ → ℕ → Bool
stray_entry h n trail j = misnames h n (slice_index trail j) || is_in (slice_index trail j) (take j trail)

-- Rule 6: of tops, numbered from the oldest on, the p-th passes the limit, or is below the next older one.
abbrev pub stray_top : ℕ → (ℕ → ℕ) → ℕ → Bool
stray_top limit top zero = nat_lt limit (top 0)
stray_top limit top (suc p) = nat_lt limit (top (suc p)) || nat_lt (top (suc p)) (top p)

-- Rule 7: cell i is bound, and leads to a cell that leads back to it; n steps are enough where n cells are in use.
abbrev pub on_cycle : Heap → ℕ → ℕ → Bool
on_cycle h n i = not (unbound h i) && any_from (first i (h i)) (many (h i)) (λ j. within n h j i)

-- Rule 8: the word in cell i leads to a cell that is not below the top.
abbrev pub leads_past : ℕ → ℕ → Cell → Bool
leads_past top i c = nat_lt 0 (many c) && nat_lt top (first i c + many c)

abbrev pub any_of : {A : Type 0} → (A → Bool) → List A → Bool
any_of p [] = false
any_of p (x ∷ xs) = p x || any_of p xs

-- With the entries from its trail top on undone, a cell below the heap top of a choice point or one of its saved
-- registers leads past that heap top; or an entry before its trail top names no cell below its heap top.
abbrev pub leaks : List Cell → List ℕ → Choice → Bool
leaks cells trail c =
    any_from 0 c.heap_top (λ i. leads_past c.heap_top i (heap_of (seen_from c cells trail) i))
    || (any_of (leads_past c.heap_top 0) c.saved || any_of (leb c.heap_top) (take c.trail_top trail))

-- The places, in the order of an image: a head line, the cells, the eight registers, the trail entries,
-- the heap tops, the trail tops, and eight saved registers of each choice point, each from the oldest choice point on.

-- the p-th choice point, counted from the oldest, which is the 0th
abbrev pub oldest : Tables → ℕ → Choice
oldest t p = choice_at t (length t.choices - suc p)

-- neighbouring places: the line of the first, how many there are, and which are at fault
pub record Part : Type 0 where
  pub line : ℕ
  pub places : ℕ
  pub fault : ℕ → Bool

abbrev pub cell_part : Tables → (ℕ → Bool) → Part
cell_part t p = record { line = 2; places = used t; fault = p }

abbrev pub register_part : Tables → (ℕ → Bool) → Part
register_part t p = record { line = 2 + used t; places = 8; fault = p }

abbrev pub trail_part : Tables → (ℕ → Bool) → Part
trail_part t p = record { line = 10 + used t; places = length t.trail; fault = p }

abbrev pub heap_top_part : Tables → (ℕ → Bool) → Part
heap_top_part t p = record { line = 10 + used t + length t.trail; places = length t.choices; fault = p }

abbrev pub trail_top_part : Tables → (ℕ → Bool) → Part
trail_top_part t p =
    record {
      line = 10 + used t + length t.trail + length t.choices;
      places = length t.choices;
      fault = p;
    }

abbrev pub saved_part : Tables → (ℕ → Bool) → Part
saved_part t p =
    record {
      line = 10 + used t + length t.trail + length t.choices + length t.choices;
      places = 8 * length t.choices;
      fault = p;
    }

-- the p-th saved register, from the oldest choice point on
abbrev pub saved_at : Tables → ℕ → Cell
saved_at t p = slice_index_or (oldest t (p / 8)).saved (p % 8) (Atom 0)

-- what each rule speaks of, in the order of lines
abbrev pub parts_of : Tables → Rule → List Part
parts_of t References = cell_part t (λ i. stray_reference (heap_of t.heap) (used t) (heap_of t.heap i)) ∷ []
parts_of t Pointers = cell_part t (λ i. stray_pointer (heap_of t.heap) (used t) (heap_of t.heap i)) ∷ []
parts_of t Arguments = cell_part t (λ i. lacks_argument (heap_of t.heap) (used t) i (heap_of t.heap i)) ∷ []
parts_of t Registers =
    register_part t (λ r. stray_word (heap_of t.heap) (used t) (slice_index_or t.registers r (Atom 0)))
    ∷ saved_part t (λ p. stray_word (heap_of t.heap) (used t) (saved_at t p))
    ∷ []
parts_of t Trail = trail_part t (stray_entry (heap_of t.heap) (used t) t.trail) ∷ []
parts_of t Tops =
    heap_top_part t (stray_top (used t) (λ p. (oldest t p).heap_top))
    ∷ trail_top_part t (stray_top (length t.trail) (λ p. (oldest t p).trail_top))
    ∷ []
parts_of t Cycles = cell_part t (on_cycle (heap_of t.heap) (used t)) ∷ []
parts_of t Levels = heap_top_part t (λ p. leaks t.heap t.trail (oldest t p)) ∷ []

-- The fault.

-- the lowest of the m numbers from n on of which p holds
unfoldable pub lowest_from : ℕ → ℕ → (ℕ → Bool) → Option ℕ
lowest_from n zero p = None
lowest_from n (suc m) p = cond (p n) (Some n) (lowest_from (suc n) m p)

abbrev pub plus_line : ℕ → Option ℕ → Option ℕ
plus_line l None = None
plus_line l (Some i) = Some (l + i)

abbrev pub or_else : {A : Type 0} → Option A → Option A → Option A
or_else None y = y
or_else (Some x) y = Some x

-- the lowest line at fault
abbrev pub lowest_line : List Part → Option ℕ
lowest_line [] = None
lowest_line (p ∷ ps) = or_else (plus_line p.line (lowest_from 0 p.places p.fault)) (lowest_line ps)

abbrev pub fault_at : Rule → Option ℕ → Option Fault
fault_at r None = None
fault_at r (Some l) = Some (record { rule = r; line = l })

-- the fault of the first broken rule
abbrev pub first_fault : Tables → List Rule → Option Fault
first_fault t [] = None
first_fault t (r ∷ rs) = or_else (fault_at r (lowest_line (parts_of t r))) (first_fault t rs)

abbrev pub all_rules : List Rule
all_rules = References ∷ Pointers ∷ Arguments ∷ Registers ∷ Trail ∷ Tops ∷ Cycles ∷ Levels ∷ []

unfoldable pub fault : Tables → Option Fault
fault t = first_fault t all_rules

abbrev pub rule_number : Rule → ℕ
rule_number References = 1
rule_number Pointers = 2
rule_number Arguments = 3
rule_number Registers = 4
rule_number Trail = 5
rule_number Tops = 6
rule_number Cycles = 7
rule_number Levels = 8
