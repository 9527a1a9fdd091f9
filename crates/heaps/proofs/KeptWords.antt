-- In tables that keep the rules, cells in use lead to cells in use, and the words of registers, saved registers and
-- arguments may stand in a register. A functor in range has few arguments.
use Rattle.std.proofs.Common.{◌≡◌, ℕ, ◌+◌, ◌<◌, ◌≤◌, true, false, ◌&&◌, ltb, leb, get_or, refl, arith}
use Rattle.std.proofs.lemmas.Bool.{lt-ltb, leb-true, and_parts}
use Rattle.cells.specs.declared.cell.Cell.{Cell}
use Rattle.cells.specs.declared.cell.Cell.TheVariants.{Reference, Pointer, Functor, Atom, Integer}
use Rattle.cells.specs.Cells.{in_range}
use Rattle.tables.specs.Tables.{Tables, used, cell_at, register, choice_at, no_choice}
use Rattle.heaps.specs.Lists.{Each}
use Rattle.heaps.specs.Leads.{Heap, heap_of, LeadsBy, is_functor}
use Rattle.heaps.specs.Spelling.{arity_of}
use Rattle.heaps.specs.Rules.{WordKeeps, Rules, Fits}
use Rattle.heaps.specs.LevelLaws.{Stands, Keeps}
use Rattle.heaps.proofs.EachLaws.{each_at}

-- a functor in range has at most 32 arguments
pub arity_small : (c : Cell) → in_range c ≡ true → arity_of c ≤ 32
arity_small (Reference n) h = omega arith
arity_small (Pointer n) h = omega arith
arity_small (Functor name arity) h = leb-true arity 32 (and_parts _ (leb arity 32) (and_parts _ (ltb 0 arity && leb arity 32) h).1).1
arity_small (Atom n) h = omega arith
arity_small (Integer z) h = omega arith

-- a word that may stand in a register leads to cells in use
pub word_leads : (h : Heap) (n i : ℕ) (w : Cell) → WordKeeps h n w → (j : ℕ) → LeadsBy i w j → j < n
word_leads h n i (Reference m) k j l = let a = k.0 in let b = l.1 in omega arith
word_leads h n i (Pointer m) k j l = let a = k.0 in let b = l.1 in omega arith
word_leads h n i (Functor name arity) k j l = absurd k
word_leads h n i (Atom a) k j l = absurd (omega arith)
word_leads h n i (Integer z) k j l = absurd (omega arith)

module _ (t : Tables) (r : Rules t) where
  pub cell_leads : (i j : ℕ) → i < used t → LeadsBy i (cell_at t i) j → j < used t
  cell_leads i j lt l = by (cell_at t i) refl l
    where
      by : (c : Cell) → cell_at t i ≡ c → LeadsBy i c j → j < used t
      by (Reference m) e k = let a = (r.references i m lt e).0 in omega arith
      by (Pointer m) e k = let a = (r.pointers i m lt e).0 in omega arith
      by (Functor name arity) e k = (r.arguments i name arity j lt e (omega arith) (omega arith)).0
      by (Atom a) e k = absurd (omega arith)
      by (Integer z) e k = absurd (omega arith)

  pub cell_keeps : (i : ℕ) → i < used t → is_functor (cell_at t i) ≡ false → WordKeeps (heap_of t.heap) (used t) (cell_at t i)
  cell_keeps i lt f = by (cell_at t i) refl
    where
      by : (c : Cell) → cell_at t i ≡ c → WordKeeps (heap_of t.heap) (used t) c
      by (Reference m) e = r.references i m lt e
      by (Pointer m) e = r.pointers i m lt e
      by (Functor name arity) e = absurd (let z : ◌≡◌ {A = ℕ} 0 1 = cc in omega arith)
      by (Atom a) e = tt
      by (Integer z) e = tt

abbrev Ranged : Cell → Type 0
Ranged c = in_range c ≡ true

pub cell_ranged : (t : Tables) → Fits t → (i : ℕ) → i < used t → in_range (cell_at t i) ≡ true
cell_ranged t f i lt = each_at Ranged t.heap i (Reference i) (let a = f.cells in lt-ltb i 4096 (omega arith)) f.heap_range

pub keeps_register : (t : Tables) (r : ℕ) → Stands t → Keeps t (register t r)
keeps_register t r s = (each_at (WordKeeps (heap_of t.heap) (used t)) t.registers r (Atom 0) tt s.0.registers.0, each_at Ranged t.registers r (Atom 0) refl s.1.register_range)

pub keeps_saved : (t : Tables) (k r : ℕ) → Stands t → Keeps t (get_or (choice_at t k).saved r (Atom 0))
keeps_saved t k r s = (
  each_at Word (choice_at t k).saved r (Atom 0) tt (each_at (λ c. Each Word c.saved) t.choices k no_choice (tt, (tt, (tt, (tt, (tt, (tt, (tt, (tt, tt)))))))) s.0.registers.1),
  each_at Ranged (choice_at t k).saved r (Atom 0) refl (each_at (λ c. Each Ranged c.saved) t.choices k no_choice (refl, (refl, (refl, (refl, (refl, (refl, (refl, (refl, tt)))))))) s.1.saved_range),
)
  where
    Word : Cell → Type 0
    Word = WordKeeps (heap_of t.heap) (used t)

pub keeps_argument : (t : Tables) (i name arity j : ℕ) → Stands t → i < used t → cell_at t i ≡ Functor name arity → i < j → j ≤ i + arity → Keeps t (cell_at t j)
keeps_argument t i name arity j s lt e p q = let a = s.0.arguments i name arity j lt e p q in (cell_keeps t s.0 j a.0 a.1, cell_ranged t s.1 j a.0)
