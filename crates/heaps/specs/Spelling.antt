-- The term that a word spells. An unbound cell c is variable c.
use Rattle.std.specs.Prelude.{ℕ, zero, suc, cond, List, length}
use Rattle.cells.specs.declared.cell.Cell.{Cell}
use Rattle.cells.specs.declared.cell.Cell.TheVariants.{Reference, Pointer, Functor, Atom, Integer}
use Rattle.tables.specs.Tables.{Tables}
use Rattle.terms.specs.Terms.{Label, named, whole, functor, Term, Terms, var, node, nil, cons, row}
use Rattle.heaps.specs.Leads.{Heap, heap_of, unbound}

-- what a functor's cell says; a pointer to any other cell, which the rules forbid, counts as one to atom 0
abbrev pub label_of : Cell → Label
label_of (Reference n) = named 0
label_of (Pointer n) = named 0
label_of (Functor name arity) = functor name arity
label_of (Atom n) = named 0
label_of (Integer z) = named 0

abbrev pub arity_of : Cell → ℕ
arity_of (Reference n) = 0
arity_of (Pointer n) = 0
arity_of (Functor name arity) = arity
arity_of (Atom n) = 0
arity_of (Integer z) = 0

-- the k cells from n on, each read by r as what a reference to it spells
abbrev pub run : (Cell → Term) → ℕ → ℕ → Terms
run r n zero = nil
run r n (suc k) = cons (r (Reference n)) (run r (suc n) k)

-- One layer of a term: r reads what lies below, v says what a reference to a bound cell makes of the term there.
-- A functor is no word that spells a term; it counts as atom 0.
abbrev pub layer : (Term → Term) → Heap → (Cell → Term) → Cell → Term
layer v h r (Reference n) = cond (unbound h n) (var n) (v (r (h n)))
layer v h r (Pointer n) = node (label_of (h n)) (run r (suc n) (arity_of (h n)))
layer v h r (Functor name arity) = node (named 0) nil
layer v h r (Atom n) = node (named n) nil
layer v h r (Integer z) = node (whole z) nil

-- so many layers
abbrev pub spell_by : (Term → Term) → Heap → ℕ → Cell → Term
spell_by v h zero c = node (named 0) nil
spell_by v h (suc g) c = layer v h (spell_by v h g) c

-- a reference spells what its cell spells
abbrev pub same : Term → Term
same t = t

-- More layers than there are cells change nothing where no cell leads back to itself.
abbrev pub spell : List Cell → Cell → Term
spell cells c = spell_by same (heap_of cells) (suc (length cells)) c

-- the terms of the registers
abbrev pub spelled : Tables → Terms
spelled t = row (spell t.heap) t.registers
