-- Worked examples: one table for each rule that it breaks, with the line at fault.
use Rattle.std.proofs.Common.{◌≡◌, ℕ, List, [], ◌∷◌, replicate, Some, None, Option, refl}
use Rattle.cells.specs.declared.cell.Cell.{Cell}
use Rattle.cells.specs.declared.cell.Cell.TheVariants.{Reference, Pointer, Functor, Atom}
use Rattle.tables.specs.Tables.{Choice, Tables}
use Rattle.heaps.specs.declared.rule.Rule.{Rule}
use Rattle.heaps.specs.declared.rule.Rule.TheVariants.{References, Pointers, Arguments, Registers, Trail, Tops, Cycles, Levels}
use Rattle.heaps.specs.declared.rule.Fault.{Fault}
use Rattle.heaps.specs.RuleTests.{lowest_from, fault}

abbrev atoms : List Cell
atoms = replicate 8 (Atom 0)

-- cells, trail entries and choice points, with atoms in the registers
abbrev tables : List Cell → List ℕ → List Choice → Tables
tables cells entries points = record { heap = cells; registers = atoms; trail = entries; choices = points }

abbrev with_first : Cell → Tables → Tables
with_first w t = record { heap = t.heap; registers = w ∷ replicate 7 (Atom 0); trail = t.trail; choices = t.choices }

abbrev point : ℕ → ℕ → Choice
point h e = record { saved = atoms; heap_top = h; trail_top = e }

abbrev broken : Rule → ℕ → Option Fault
broken r l = Some (record { rule = r; line = l })

-- the structure g(X, a) in three cells, which X0 points to
good : fault (with_first (Pointer 0) (tables (Functor 7 2 ∷ Reference 1 ∷ Atom 0 ∷ []) [] [])) ≡ None
unfolding fault lowest_from
good = refl

-- cell 1, on line 3, refers to cell 9, which is not in use
stray : fault (tables (Atom 0 ∷ Reference 9 ∷ []) [] []) ≡ broken References 3
unfolding fault lowest_from
stray = refl

-- rule 1 comes first, though the pointer stands on an earlier line
first_rule : fault (tables (Pointer 0 ∷ Reference 9 ∷ []) [] []) ≡ broken References 3
unfolding fault lowest_from
first_rule = refl

pointer : fault (tables (Pointer 0 ∷ []) [] []) ≡ broken Pointers 2
unfolding fault lowest_from
pointer = refl

-- the functor is named, not the argument that is missing
argument : fault (tables (Functor 7 2 ∷ Atom 0 ∷ []) [] []) ≡ broken Arguments 2
unfolding fault lowest_from
argument = refl

-- one cell, so the registers begin on line 3
register : fault (with_first (Reference 1) (tables (Atom 0 ∷ []) [] [])) ≡ broken Registers 3
unfolding fault lowest_from
register = refl

-- Of two equal entries the later one is named: two cells, so the trail begins on line 12.
twice : fault (tables (Atom 0 ∷ Atom 1 ∷ []) (1 ∷ 0 ∷ 1 ∷ []) []) ≡ broken Trail 14
unfolding fault lowest_from
twice = refl

-- The newest choice point comes first in the list and last in the image: of the falling pair 2, 1 the newer is named.
falling : fault (tables (Atom 0 ∷ Atom 0 ∷ []) [] (point 1 0 ∷ point 2 0 ∷ [])) ≡ broken Tops 13
unfolding fault lowest_from
falling = refl

-- a trail top above the number of entries: its line comes after the heap tops
high : fault (tables (Atom 0 ∷ []) [] (point 1 0 ∷ point 1 1 ∷ [])) ≡ broken Tops 13
unfolding fault lowest_from
high = refl

-- cell 0 leads to a cycle, and cells 1 and 2 lie on it
cycle : fault (tables (Reference 1 ∷ Reference 2 ∷ Reference 1 ∷ []) [] []) ≡ broken Cycles 3
unfolding fault lowest_from
cycle = refl

-- cell 0 is older than the choice point and refers to cell 1, which is newer, and the trail does not say so
level : fault (tables (Reference 1 ∷ Atom 0 ∷ []) [] (point 1 0 ∷ [])) ≡ broken Levels 12
unfolding fault lowest_from
level = refl

-- with the entry, the choice point sees cell 0 unbound
trailed : fault (tables (Reference 1 ∷ Atom 0 ∷ []) (0 ∷ []) (point 1 0 ∷ [])) ≡ None
unfolding fault lowest_from
trailed = refl
