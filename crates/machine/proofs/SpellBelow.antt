-- A word that a register may hold spells a term whose variables are cells in use.
use Rattle.std.proofs.Common.{◌≡◌, ℕ, zero, suc, ◌+◌, ◌<◌, ◌≤◌, Bool, true, false, cond, List, [], ◌∷◌, refl, arith}
use Rattle.cells.specs.declared.cell.Cell.{Cell}
use Rattle.cells.specs.declared.cell.Cell.TheVariants.{Reference, Pointer, Functor, Atom, Integer}
use Rattle.tables.specs.Tables.{Tables, used}
use Rattle.terms.specs.Terms.{Term, var, row}
use Rattle.heaps.specs.Lists.{Each}
use Rattle.heaps.specs.Leads.{Heap, heap_of, unbound}
use Rattle.heaps.specs.Spelling.{arity_of, run, same, spell_by, spell, spelled}
use Rattle.heaps.specs.Rules.{WordKeeps, Rules}
use Rattle.heaps.proofs.Sound.{Sound, rules_sound, cell_keeps}
use Rattle.machine.proofs.Below.{Below}

run_below : (n : ℕ) (r : Cell → Term) (i k : ℕ) → ((j : ℕ) → i ≤ j → j < i + k → Below n (r (Reference j))) → Below n (run r i k)
run_below n r i zero f = tt
run_below n r i (suc k) f = (f i (omega arith) (omega arith), run_below n r (suc i) k (λ j le lt. f j (omega arith) (omega arith)))

module _ (h : Heap) (n : ℕ) (s : Sound h n) where
  arguments_keep : (m : ℕ) (c : Cell) → h m ≡ c → m < n → (j : ℕ) → suc m ≤ j → j < suc m + arity_of c → WordKeeps h n (Reference j)
  arguments_keep m (Reference x) e lt j a b = absurd (omega arith)
  arguments_keep m (Pointer x) e lt j a b = absurd (omega arith)
  arguments_keep m (Functor name arity) e lt j a b = s.arguments m name arity j lt e (omega arith) (omega arith)
  arguments_keep m (Atom x) e lt j a b = absurd (omega arith)
  arguments_keep m (Integer z) e lt j a b = absurd (omega arith)

  by_below : (g : ℕ) (c : Cell) → WordKeeps h n c → Below n (spell_by same h g c)
  by_below zero c k = tt
  by_below (suc g) (Reference m) k = test (unbound h m) (by_below g (h m) (cell_keeps h n s m k.0 k.1))
    where
      test : (b : Bool) → Below n (spell_by same h g (h m)) → Below n (cond b (var m) (spell_by same h g (h m)))
      test true p = k.0
      test false p = p
  by_below (suc g) (Pointer m) k =
      run_below n (spell_by same h g) (suc m) (arity_of (h m)) (λ j a b. by_below g (Reference j) (arguments_keep m (h m) refl k.0 j a b))
  by_below (suc g) (Functor name arity) k = tt
  by_below (suc g) (Atom a) k = tt
  by_below (suc g) (Integer z) k = tt

module _ (t : Tables) (r : Rules t) where
  pub spell_below : (c : Cell) → WordKeeps (heap_of t.heap) (used t) c → Below (used t) (spell t.heap c)
  spell_below c k = by_below (heap_of t.heap) (used t) (rules_sound t r) (suc (used t)) c k

  row_below : (cs : List Cell) → Each (WordKeeps (heap_of t.heap) (used t)) cs → Below (used t) (row (spell t.heap) cs)
  row_below [] k = tt
  row_below (c ∷ cs) k = (spell_below c k.0, row_below cs k.1)

  pub spelled_below : Below (used t) (spelled t)
  spelled_below = row_below t.registers r.registers.0
