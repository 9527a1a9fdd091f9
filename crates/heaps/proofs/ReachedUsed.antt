-- Under the rules, what words reach is in use.
use Rattle.std.proofs.Common.{◌≡◌, ℕ, ◌<◌, List, [], ◌∷◌, refl, arith}
use Rattle.cells.specs.declared.cell.Cell.{Cell}
use Rattle.cells.specs.declared.cell.Cell.TheVariants.{Reference, Pointer, Functor, Atom, Integer}
use Rattle.tables.specs.Tables.{Choice, Tables, used}
use Rattle.heaps.specs.Lists.{Each}
use Rattle.heaps.specs.Leads.{Heap, heap_of, LeadsBy}
use Rattle.heaps.specs.Reached.{saved_words, roots}
use Rattle.heaps.specs.Rules.{WordKeeps, Rules}
use Rattle.heaps.specs.ReachedLaws.{RootsKeep, WordsReachUsed, ReachedUsed}
use Rattle.heaps.proofs.MemberLaws.{each_joined, each_among}
use Rattle.heaps.proofs.ReachesLaws.{reaches_in}

-- cells in use lead to cells in use
pub rules_inside : (t : Tables) → Rules t → (i j : ℕ) → i < used t → LeadsBy i (heap_of t.heap i) j → j < used t
rules_inside t r i j lt l = by (heap_of t.heap i) refl l
  where
    by : (c : Cell) → heap_of t.heap i ≡ c → LeadsBy i c j → j < used t
    by (Reference m) e q = let p = (r.references i m lt e).0 in let a = q.0 in let b = q.1 in omega arith
    by (Pointer m) e q = let p = (r.pointers i m lt e).0 in let a = q.0 in let b = q.1 in omega arith
    by (Functor name arity) e q = let a = q.0 in let b = q.1 in (r.arguments i name arity j lt e (omega arith) (omega arith)).0
    by (Atom n) e q = let b = q.1 in absurd (omega arith)
    by (Integer z) e q = let b = q.1 in absurd (omega arith)

-- a word that keeps the rules leads to cells in use
pub word_inside : (h : Heap) (n : ℕ) (w : Cell) → WordKeeps h n w → (j : ℕ) → LeadsBy 0 w j → j < n
word_inside h n (Reference m) k j l = let p = k.0 in let b = l.1 in omega arith
word_inside h n (Pointer m) k j l = let p = k.0 in let b = l.1 in omega arith
word_inside h n (Functor name arity) k j l = absurd k
word_inside h n (Atom a) k j l = let b = l.1 in absurd (omega arith)
word_inside h n (Integer z) k j l = let b = l.1 in absurd (omega arith)

abbrev Keeps : Tables → Cell → Type 0
Keeps t = WordKeeps (heap_of t.heap) (used t)

each_saved : (P : Cell → Type 0) (cs : List Choice) → Each (λ c. Each P c.saved) cs → Each P (saved_words cs)
each_saved P [] e = tt
each_saved P (c ∷ cs) e = each_joined P c.saved (saved_words cs) e.0 (each_saved P cs e.1)

pub roots_keep : RootsKeep
roots_keep t r =
    each_joined (Keeps t) t.registers (saved_words t.choices) r.registers.0 (each_saved (Keeps t) t.choices r.registers.1)

pub words_reach_used : WordsReachUsed
words_reach_used t r ws keep k q = reaches_in (heap_of t.heap) ws (λ j. j < used t) (record {
  starts = λ w j m l. word_inside (heap_of t.heap) (used t) w (each_among (Keeps t) keep m) j l;
  goes_on = λ i j lt l. rules_inside t r i j lt l;
}) k q

pub reached_used : ReachedUsed
reached_used t r k q = words_reach_used t r (roots t) (roots_keep t r) k q
