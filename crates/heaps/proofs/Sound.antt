-- A heap with n cells in use that keeps rules 1 to 3, as the spelling needs it; the rules of tables give it.
use Rattle.std.proofs.Common.{◌≡◌, ℕ, ◌<◌, ◌≤◌, true, false, refl}
use lib.ListN.{get_or-eq_default}
use Rattle.std.proofs.lemmas.Bool.{both_ways}
use Rattle.cells.specs.declared.cell.Cell.{Cell}
use Rattle.cells.specs.declared.cell.Cell.TheVariants.{Reference, Pointer, Functor, Atom, Integer}
use Rattle.tables.specs.Tables.{Tables, used}
use Rattle.heaps.specs.Leads.{Heap, heap_of, is_functor}
use Rattle.heaps.specs.Rules.{ReferencesLead, PointersLead, ArgumentsStand, WordKeeps, Rules}

pub record Sound (h : Heap) (n : ℕ) : Type 0 where
  pub beyond : (i : ℕ) → n ≤ i → h i ≡ Reference i
  pub references : ReferencesLead h n
  pub pointers : PointersLead h n
  pub arguments : ArgumentsStand h n

pub rules_sound : (t : Tables) → Rules t → Sound (heap_of t.heap) (used t)
rules_sound t r =
    record {
      beyond = λ i le. get_or-eq_default t.heap (Reference i) le;
      references = r.references;
      pointers = r.pointers;
      arguments = r.arguments;
    }

-- the word in a cell that is no functor keeps rules 1 and 2, as a register's word does
pub cell_keeps : (h : Heap) (n : ℕ) → Sound h n → (i : ℕ) → i < n → is_functor (h i) ≡ false → WordKeeps h n (h i)
cell_keeps h n sound i lt p = by (h i) refl p
  where
    by : (c : Cell) → h i ≡ c → is_functor c ≡ false → WordKeeps h n c
    by (Reference m) e q = sound.references i m lt e
    by (Pointer m) e q = sound.pointers i m lt e
    by (Functor name arity) e q = absurd (both_ways true q refl)
    by (Atom a) e q = tt
    by (Integer z) e q = tt
