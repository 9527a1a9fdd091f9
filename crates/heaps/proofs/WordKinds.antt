-- What the kinds of words have in common: unbound cells, words that keep rules 1 and 2, and words that are no functors.
use Rattle.std.proofs.Common.{◌≡◌, ℕ, ◌+◌, ◌<◌, ◌≤◌, Bool, true, false, refl, ap, ◌∙◌, arith}
use Rattle.std.proofs.lemmas.Bool.{both_ways, eqb-true}
use Rattle.cells.specs.declared.cell.Cell.{Cell}
use Rattle.cells.specs.declared.cell.Cell.TheVariants.{Reference, Pointer, Functor, Atom, Integer}
use Rattle.terms.specs.Terms.{named}
use Rattle.heaps.specs.Leads.{Heap, LeadsBy, refers_to, unbound, is_functor}
use Rattle.heaps.specs.Spelling.{label_of, arity_of}
use Rattle.heaps.specs.Rules.{WordKeeps}

-- a test that cannot be true is false
pub false_of : (b : Bool) → (b ≡ true → ⊥) → b ≡ false
false_of true f = absurd (f refl)
false_of false f = refl

-- a word that refers to cell n is the reference to it
pub refers_eq : (n : ℕ) (c : Cell) → refers_to n c ≡ true → c ≡ Reference n
refers_eq n (Reference m) e = ap Reference (eqb-true m n e)
refers_eq n (Pointer m) e = absurd (both_ways false refl e)
refers_eq n (Functor name arity) e = absurd (both_ways false refl e)
refers_eq n (Atom a) e = absurd (both_ways false refl e)
refers_eq n (Integer z) e = absurd (both_ways false refl e)

-- an unbound cell holds the reference to itself
pub unbound_is : (h : Heap) (n : ℕ) → unbound h n ≡ true → h n ≡ Reference n
unbound_is h n e = refers_eq n (h n) e

-- a word that keeps rules 1 and 2 is no functor
pub keeps_word : (h : Heap) (n : ℕ) (c : Cell) → WordKeeps h n c → is_functor c ≡ false
keeps_word h n (Reference m) k = refl
keeps_word h n (Pointer m) k = refl
keeps_word h n (Functor name arity) k = absurd k
keeps_word h n (Atom a) k = refl
keeps_word h n (Integer z) k = refl

-- a word that keeps rules 1 and 2 does so in each heap with the same kinds of cells
pub keeps_kinds : (h k : Heap) (n : ℕ) → ((m : ℕ) → is_functor (k m) ≡ is_functor (h m)) → (c : Cell) → WordKeeps h n c → WordKeeps k n c
keeps_kinds h k n f (Reference m) p = (p.0, f m ∙ p.1)
keeps_kinds h k n f (Pointer m) p = (p.0, f m ∙ p.1)
keeps_kinds h k n f (Functor name arity) p = p
keeps_kinds h k n f (Atom a) p = p
keeps_kinds h k n f (Integer z) p = p

-- a pointer reads a word that is no functor as atom 0
pub head_word : (c : Cell) → is_functor c ≡ false → (label_of c ≡ named 0) × (arity_of c ≡ 0)
head_word (Reference n) e = (refl, refl)
head_word (Pointer n) e = (refl, refl)
head_word (Functor name arity) e = absurd (both_ways true e refl)
head_word (Atom a) e = (refl, refl)
head_word (Integer z) e = (refl, refl)

-- a word that is no functor leads to the same cells wherever it stands
pub word_leads : (i k j : ℕ) (c : Cell) → is_functor c ≡ false → LeadsBy i c j → LeadsBy k c j
word_leads i k j (Reference n) e l = l
word_leads i k j (Pointer n) e l = l
word_leads i k j (Functor name arity) e l = absurd (both_ways true e refl)
word_leads i k j (Atom a) e l = l
word_leads i k j (Integer z) e l = l

-- a functor leads to its arguments
pub argument_leads : (i j : ℕ) (c : Cell) → i < j → j ≤ i + arity_of c → LeadsBy i c j
argument_leads i j (Reference n) p q = absurd (omega arith)
argument_leads i j (Pointer n) p q = absurd (omega arith)
argument_leads i j (Functor name arity) p q = (p, omega arith)
argument_leads i j (Atom a) p q = absurd (omega arith)
argument_leads i j (Integer z) p q = absurd (omega arith)
