-- The ends of two words meet: by their kinds, where they are not both structures.
use Rattle.std.proofs.Common.{◌≡◌, ℕ, Bool, true, false, cond, List, ◌∷◌, ℤ, pos, negsuc, sym, refl, ap, subst, inl, inr, None}
use Rattle.std.proofs.lemmas.Bool.{both_ways, eq-eqb}
use Rattle.cells.specs.declared.cell.Cell.{Cell}
use Rattle.cells.specs.declared.cell.Cell.TheVariants.{Reference, Pointer, Functor, Atom, Integer}
use Rattle.tables.specs.Tables.{Tables}
use Rattle.terms.specs.Terms.{named, whole, same_int, same_label}
use Rattle.terms.proofs.SameLaws.{same_label_true}
use Rattle.heaps.specs.LevelLaws.{Keeps}
use Rattle.heaps.proofs.WordKinds.{false_of}
use Rattle.calls.specs.Unifying.{Pair, rows, stop, go, bind_to, meet}
use Rattle.unifying.specs.Merging.{both_pointers}
use Rattle.unifying.specs.Bindings.{Met, goes, stops}

pub met_bound : (t u : Tables) (a b : Cell) (r : Bool) → ((ps : List Pair) → meet t a b ps ≡ cond r (go u ps) (stop None)) → Met t u a b r
met_bound t u a b true is = goes (λ ps. inl (is ps))
met_bound t u a b false is = stops is

-- a variable and a word that is no variable, on either side
pub meet_word : (t : Tables) (x : ℕ) (b : Cell) → Keeps t b → ((n : ℕ) → b ≡ Reference n → ⊥) → (ps : List Pair) → meet t (Reference x) b ps ≡ bind_to t x b ps
meet_word t x (Reference n) k other ps = absurd (other n refl)
meet_word t x (Pointer n) k other ps = refl
meet_word t x (Functor name arity) k other ps = absurd k.0
meet_word t x (Atom n) k other ps = refl
meet_word t x (Integer z) k other ps = refl

pub word_meet : (t : Tables) (a : Cell) (y : ℕ) → Keeps t a → ((n : ℕ) → a ≡ Reference n → ⊥) → (ps : List Pair) → meet t a (Reference y) ps ≡ bind_to t y a ps
word_meet t (Reference n) y k other ps = absurd (other n refl)
word_meet t (Pointer n) y k other ps = refl
word_meet t (Functor name arity) y k other ps = absurd k.0
word_meet t (Atom n) y k other ps = refl
word_meet t (Integer z) y k other ps = refl

same_int_same : (z : ℤ) → same_int z z ≡ true
same_int_same (pos n) = eq-eqb n n refl
same_int_same (negsuc n) = eq-eqb n n refl

-- two words that are no variables and not both structures
equal_met : (t : Tables) (a : Cell) → Keeps t a → ((n : ℕ) → a ≡ Reference n → ⊥) → both_pointers a a ≡ false → Met t t a a true
equal_met t (Reference n) k other apart = absurd (other n refl)
equal_met t (Pointer n) k other apart = absurd (both_ways true apart refl)
equal_met t (Functor name arity) k other apart = absurd k.0
equal_met t (Atom n) k other apart = goes (λ ps. inr (rw (eq-eqb n n refl) refl))
equal_met t (Integer z) k other apart = goes (λ ps. inr (rw (same_int_same z) refl))

differ_met : (t : Tables) (a b : Cell) → Keeps t a → Keeps t b → ((n : ℕ) → a ≡ Reference n → ⊥) → ((n : ℕ) → b ≡ Reference n → ⊥) → both_pointers a b ≡ false
    → (a ≡ b → ⊥) → Met t t a b false
differ_met t (Reference n) b k l oa ob apart ne = absurd (oa n refl)
differ_met t (Functor name arity) b k l oa ob apart ne = absurd k.0
differ_met t (Pointer p) (Reference n) k l oa ob apart ne = absurd (ob n refl)
differ_met t (Pointer p) (Pointer q) k l oa ob apart ne = absurd (both_ways true apart refl)
differ_met t (Pointer p) (Functor name arity) k l oa ob apart ne = stops (λ ps. refl)
differ_met t (Pointer p) (Atom n) k l oa ob apart ne = stops (λ ps. refl)
differ_met t (Pointer p) (Integer z) k l oa ob apart ne = stops (λ ps. refl)
differ_met t (Atom m) (Reference n) k l oa ob apart ne = absurd (ob n refl)
differ_met t (Atom m) (Pointer q) k l oa ob apart ne = stops (λ ps. refl)
differ_met t (Atom m) (Functor name arity) k l oa ob apart ne = stops (λ ps. refl)
differ_met t (Atom m) (Atom n) k l oa ob apart ne =
    let differ : same_label (named m) (named n) ≡ false = false_of _ (λ e. ne (let q : named m ≡ named n = same_label_true _ _ e in let i : m ≡ n = cc in ap Atom i)) in
    stops (λ ps. ap (λ (c : Bool). cond c (go t (rows 0 0 0 ∷ ps)) (stop None)) differ)
differ_met t (Atom m) (Integer z) k l oa ob apart ne = stops (λ ps. refl)
differ_met t (Integer y) (Reference n) k l oa ob apart ne = absurd (ob n refl)
differ_met t (Integer y) (Pointer q) k l oa ob apart ne = stops (λ ps. refl)
differ_met t (Integer y) (Functor name arity) k l oa ob apart ne = stops (λ ps. refl)
differ_met t (Integer y) (Atom n) k l oa ob apart ne = stops (λ ps. refl)
differ_met t (Integer y) (Integer z) k l oa ob apart ne =
    let differ : same_label (whole y) (whole z) ≡ false = false_of _ (λ e. ne (let q : whole y ≡ whole z = same_label_true _ _ e in let i : y ≡ z = cc in ap Integer i)) in
    stops (λ ps. ap (λ (c : Bool). cond c (go t (rows 0 0 0 ∷ ps)) (stop None)) differ)

pub constants_met : (t : Tables) (a b : Cell) (r : Bool) → Keeps t a → Keeps t b → ((n : ℕ) → a ≡ Reference n → ⊥) → ((n : ℕ) → b ≡ Reference n → ⊥) → both_pointers a b ≡ false
    → (r ≡ true → a ≡ b) → (r ≡ false → a ≡ b → ⊥) → Met t t a b r
constants_met t a b true k l oa ob apart same other =
    subst (λ (c : Cell). Met t t a c true) (same refl) (equal_met t a k oa (subst (λ (c : Cell). both_pointers a c ≡ false) (sym (same refl)) apart))
constants_met t a b false k l oa ob apart same other = differ_met t a b k l oa ob apart (other refl)
