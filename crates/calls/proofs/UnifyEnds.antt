-- What stands at the end of a chain, and what it spells: a variable, a structure, an atom or an integer.
-- The end may stand in a register if the first word may.
use Rattle.std.proofs.Common.{◌≡◌, ℕ, zero, suc, ◌<◌, Bool, true, false, cond, ℤ, refl, subst, arith}
use Rattle.std.proofs.lemmas.Bool.{both_ways, lt-ltb}
use Rattle.cells.specs.declared.cell.Cell.{Cell}
use Rattle.cells.specs.declared.cell.Cell.TheVariants.{Reference, Pointer, Functor, Atom, Integer}
use Rattle.cells.specs.Cells.{in_range}
use Rattle.tables.specs.Tables.{Tables, used, cell_at}
use Rattle.terms.specs.Terms.{named, whole, functor, Term, var, node, nil}
use Rattle.heaps.specs.Leads.{heap_of, unbound, is_functor}
use Rattle.heaps.specs.Spelling.{run, spell}
use Rattle.heaps.specs.Rules.{WordKeeps, Rules, Fits}
use Rattle.heaps.specs.Ends.{end_by, end}
use Rattle.heaps.specs.LevelLaws.{Stands, Keeps}
use Rattle.heaps.proofs.EachLaws.{each_at}
use Rattle.heaps.proofs.SpellLaws.{spell_unbound, spell_pointer}
use Rattle.heaps.proofs.EndLaws.{end_ends, spell_end, end_keeps}

-- a word at the end of a chain, and the term that it spells
pub data Ended (t : Tables) : Cell → Term → Type 0 where
  variable : (x : ℕ) → unbound (heap_of t.heap) x ≡ true → Ended t (Reference x) (var x)
  structure : (p name arity : ℕ) → cell_at t p ≡ Functor name arity → Ended t (Pointer p) (node (functor name arity) (run (spell t.heap) (suc p) arity))
  atom : (a : ℕ) → Ended t (Atom a) (node (named a) nil)
  integer : (z : ℤ) → Ended t (Integer z) (node (whole z) nil)

functor_cell : (c : Cell) → is_functor c ≡ true → (name : ℕ) × (arity : ℕ) × (c ≡ Functor name arity)
functor_cell (Reference n) e = absurd (both_ways false refl e)
functor_cell (Pointer n) e = absurd (both_ways false refl e)
functor_cell (Functor name arity) e = (name, arity, refl)
functor_cell (Atom a) e = absurd (both_ways false refl e)
functor_cell (Integer z) e = absurd (both_ways false refl e)

pub end_ended : (t : Tables) → Rules t → (c : Cell) → WordKeeps (heap_of t.heap) (used t) c → Ended t (end t c) (spell t.heap c)
end_ended t r c k = subst (Ended t (end t c)) (spell_end t r c) (by (end t c) (end_keeps t r c k) (end_ends t r c))
  where
    by : (e : Cell) → WordKeeps (heap_of t.heap) (used t) e → ((n : ℕ) → e ≡ Reference n → unbound (heap_of t.heap) n ≡ true) → Ended t e (spell t.heap e)
    by (Reference n) l free = rw (spell_unbound t r n (free n refl)) (variable n (free n refl))
    by (Pointer p) l free = let q = functor_cell (cell_at t p) l.1 in rw (spell_pointer t r p q.0 q.1 q.2) (structure p q.0 q.1 q.2)
    by (Functor name arity) l free = absurd l
    by (Atom a) l free = atom a
    by (Integer z) l free = integer z

-- a chain in range leads to a word in range
end_ranged : (t : Tables) → Fits t → (g : ℕ) (c : Cell) → in_range c ≡ true → in_range (end_by g (heap_of t.heap) c) ≡ true
end_ranged t f zero c e = e
end_ranged t f (suc g) (Reference n) e =
    test (unbound (heap_of t.heap) n) (end_ranged t f g (cell_at t n) (each_at (λ c. in_range c ≡ true) t.heap n (Reference n) e f.heap_range))
  where
    test : (b : Bool) → in_range (end_by g (heap_of t.heap) (cell_at t n)) ≡ true → in_range (cond b (Reference n) (end_by g (heap_of t.heap) (cell_at t n))) ≡ true
    test true p = e
    test false p = p
end_ranged t f (suc g) (Pointer n) e = e
end_ranged t f (suc g) (Functor name arity) e = e
end_ranged t f (suc g) (Atom a) e = e
end_ranged t f (suc g) (Integer z) e = e

pub keeps_end : (t : Tables) (c : Cell) → Stands t → Keeps t c → Keeps t (end t c)
keeps_end t c s k = (end_keeps t s.0 c k.0, end_ranged t s.1 (suc (used t)) c k.1)

-- the reference to a cell in use that is no functor may stand in a register
pub keeps_reference : (t : Tables) (n : ℕ) → Fits t → (n < used t) × (is_functor (cell_at t n) ≡ false) → Keeps t (Reference n)
keeps_reference t n f p = let a = p.0 in let b = f.cells in (p, lt-ltb n 4096 (omega arith))
