-- A cell in range comes back from the two words of its kind and value, and the words from the cell that they are read as.
use Rattle.std.proofs.Common.{◌≡◌, ℕ, ◌/◌, ◌%◌, ◌^◌, ◌<◌, ◌≤◌, true, cond, eqb, leb, List, [], ◌∷◌, ℤ, pos, negsuc, Some, None, codes, decimal, Option, refl, ap, ◌∙◌, ap₂, arith}
use Rattle.std.specs.Option.{option_map}
use Rattle.std.proofs.lemmas.Bool.{and_parts, cond-true, eqb-true, leb-true, ltb-true}
use Rattle.cells.specs.declared.cell.Cell.{Cell}
use Rattle.cells.specs.declared.cell.Cell.TheVariants.{Reference, Pointer, Functor, Atom, Integer}
use Rattle.cells.specs.Cells.{in_range, functor_value}
use Rattle.lines.specs.declared.word.Kind.{Kind}
use Rattle.lines.specs.declared.word.Kind.TheVariants as kind
use Rattle.lines.specs.Words.{natural64, integer64, kind_of, letter}
use Rattle.lines.specs.Lines.{cell_by, ranged, cell_in, limited, number_in}
use Rattle.images.specs.Text.{kind_text, value_text}
use Rattle.lines.proofs.Options.{not_some, or_from}
use Rattle.images.proofs.InPlace.{ranged_parts, limited_parts}
use Rattle.images.proofs.Pieces.{Word}
use Rattle.images.proofs.NumbersBack.{Small, small_64, natural64_decimal, decimal_natural64, integer64_signed, signed_integer64, word_decimal, word_signed}

-- letters

abbrev letter_of : Kind → List ℕ
letter_of kind.Reference = codes "r"
letter_of kind.Pointer = codes "s"
letter_of kind.Functor = codes "f"
letter_of kind.Atom = codes "a"
letter_of kind.Integer = codes "i"
letter_of kind.Number = codes "n"

kind_letter : (b : ℕ) (k : Kind) → kind_of b ≡ Some k → b ∷ [] ≡ letter_of k
kind_letter b =
    by kind.Reference 114 refl (by kind.Pointer 115 refl (by kind.Functor 102 refl (by kind.Atom 97 refl (by kind.Integer 105 refl (by kind.Number 110 refl (λ k e. absurd (not_some e)))))))
  where
    by : (q : Kind) (n : ℕ) → n ∷ [] ≡ letter_of q → {o : Option Kind} → ((k : Kind) → o ≡ Some k → b ∷ [] ≡ letter_of k)
        → (k : Kind) → cond (eqb b n) (Some q) o ≡ Some k → b ∷ [] ≡ letter_of k
    by q n is {o} else = or_from (λ k. b ∷ [] ≡ letter_of k) (eqb b n) q o (λ t. ap (λ c. c ∷ []) (eqb-true b n t) ∙ is) else

letter_back : (w : List ℕ) (k : Kind) → letter w ≡ Some k → w ≡ letter_of k
letter_back [] k e = absurd (not_some e)
letter_back (b ∷ []) k e = kind_letter b k e
letter_back (b ∷ c ∷ cs) k e = absurd (not_some e)

-- cells

small : (z : ℤ) → in_range (Integer z) ≡ true → Small z
small (pos n) h = ltb-true n (2 ^ 28) h
small (negsuc n) h = ltb-true n (2 ^ 28) h

module _ (name arity : ℕ) (h : in_range (Functor name arity) ≡ true) where
  functor_parts : (name < 65536) × (arity ≤ 32)
  functor_parts = let p = and_parts _ _ h in (ltb-true name 65536 p.0, leb-true arity 32 (and_parts _ _ p.1).1)

  functor_low : functor_value name arity < 10 ^ 10
  functor_low = let p = functor_parts in omega (arith, p.0, p.1)

  functor_back : Functor (functor_value name arity / 64) (functor_value name arity % 64) ≡ Functor name arity
  functor_back =
      let p = functor_parts in
      let q : functor_value name arity / 64 ≡ name = omega (arith, p.1) in
      let r : functor_value name arity % 64 ≡ arity = omega (arith, p.1) in
      ap₂ Functor q r

pub kind_word : (c : Cell) → Word (kind_text c)
kind_word (Reference n) = record { shape = refl; high = refl }
kind_word (Pointer n) = record { shape = refl; high = refl }
kind_word (Functor name arity) = record { shape = refl; high = refl }
kind_word (Atom n) = record { shape = refl; high = refl }
kind_word (Integer z) = record { shape = refl; high = refl }

pub value_word : (c : Cell) → in_range c ≡ true → Word (value_text c)
value_word (Reference n) h = word_decimal n (omega (arith, ltb-true n 4096 h))
value_word (Pointer n) h = word_decimal n (omega (arith, ltb-true n 4096 h))
value_word (Functor name arity) h = word_decimal (functor_value name arity) (functor_low name arity h)
value_word (Atom n) h = word_decimal n (omega (arith, ltb-true n 65536 h))
value_word (Integer z) h = word_signed z (small z h)

pub cell_read : (c : Cell) → in_range c ≡ true → cell_in (letter (kind_text c)) (natural64 (value_text c)) (integer64 (value_text c)) ≡ Some c
cell_read (Reference n) h = ap (λ o. ranged (option_map Reference o)) (natural64_decimal n (omega (arith, ltb-true n 4096 h))) ∙ cond-true _ _ _ h
cell_read (Pointer n) h = ap (λ o. ranged (option_map Pointer o)) (natural64_decimal n (omega (arith, ltb-true n 4096 h))) ∙ cond-true _ _ _ h
cell_read (Functor name arity) h =
    ap (λ o. ranged (option_map (λ v. Functor (v / 64) (v % 64)) o)) (natural64_decimal (functor_value name arity) (omega (arith, functor_low name arity h)))
    ∙ ap (λ c. ranged (Some c)) (functor_back name arity h) ∙ cond-true _ _ _ h
cell_read (Atom n) h = ap (λ o. ranged (option_map Atom o)) (natural64_decimal n (omega (arith, ltb-true n 65536 h))) ∙ cond-true _ _ _ h
cell_read (Integer z) h = ap (λ o. ranged (option_map Integer o)) (integer64_signed z (small_64 z (small z h))) ∙ cond-true _ _ _ h

mapped_parts : {A B : Type 0} (f : A → B) (o : Option A) (y : B) → option_map f o ≡ Some y → (x : A) × (o ≡ Some x) × (f x ≡ y)
mapped_parts f None y e = absurd (not_some e)
mapped_parts f (Some x) y e = (x, refl, cc)

module _ (v : List ℕ) where
  by_natural : (f : ℕ → Cell) → ((n : ℕ) → decimal n ≡ value_text (f n)) → (c : Cell) → option_map f (natural64 v) ≡ Some c → v ≡ value_text c
  by_natural f is c e =
      let m = mapped_parts f (natural64 v) c e in
      (decimal_natural64 v m.0 m.1).0 ∙ is m.0 ∙ ap value_text m.2

  value_back : (k : Kind) (c : Cell) → cell_by k (natural64 v) (integer64 v) ≡ Some c → (letter_of k ≡ kind_text c) × (v ≡ value_text c)
  value_back kind.Reference c e = (ap kind_text (mapped_parts Reference (natural64 v) c e).2, by_natural Reference (λ n. refl) c e)
  value_back kind.Pointer c e = (ap kind_text (mapped_parts Pointer (natural64 v) c e).2, by_natural Pointer (λ n. refl) c e)
  value_back kind.Functor c e =
      let f : ℕ → Cell = λ n. Functor (n / 64) (n % 64) in
      (ap kind_text (mapped_parts f (natural64 v) c e).2, by_natural f (λ n. ap decimal (let same : n ≡ functor_value (n / 64) (n % 64) = omega arith in same)) c e)
  value_back kind.Atom c e = (ap kind_text (mapped_parts Atom (natural64 v) c e).2, by_natural Atom (λ n. refl) c e)
  value_back kind.Integer c e =
      let m = mapped_parts Integer (integer64 v) c e in
      (ap kind_text m.2, (signed_integer64 v m.0 m.1).0 ∙ ap value_text m.2)
  value_back kind.Number c e = absurd (not_some e)

  pub cell_back : (w : List ℕ) (c : Cell) → cell_in (letter w) (natural64 v) (integer64 v) ≡ Some c → (w ≡ kind_text c) × (v ≡ value_text c)
  cell_back w c e = by (letter w) refl e
    where
      by : (o : Option Kind) → letter w ≡ o → cell_in o (natural64 v) (integer64 v) ≡ Some c → (w ≡ kind_text c) × (v ≡ value_text c)
      by None is e = absurd (not_some e)
      by (Some k) is e =
          let b = value_back k c (ranged_parts (cell_by k (natural64 v) (integer64 v)) c e).0 in
          (letter_back w k is ∙ b.0, b.1)

  -- the parts without cells
  pub number_back : (w : List ℕ) (n : ℕ) → number_in (letter w) (natural64 v) ≡ Some n → (w ≡ codes "n") × (v ≡ decimal n)
  number_back w n e = by (letter w) refl e
    where
      by : (o : Option Kind) → letter w ≡ o → number_in o (natural64 v) ≡ Some n → (w ≡ codes "n") × (v ≡ decimal n)
      by None is e = absurd (not_some e)
      by (Some kind.Reference) is e = absurd (not_some e)
      by (Some kind.Pointer) is e = absurd (not_some e)
      by (Some kind.Functor) is e = absurd (not_some e)
      by (Some kind.Atom) is e = absurd (not_some e)
      by (Some kind.Integer) is e = absurd (not_some e)
      by (Some kind.Number) is e = (letter_back w kind.Number is, (decimal_natural64 v n (limited_parts (natural64 v) n e).0).0)

pub number_read : (n : ℕ) → leb n 4096 ≡ true → number_in (letter (codes "n")) (natural64 (decimal n)) ≡ Some n
number_read n h = ap limited (natural64_decimal n (omega (arith, leb-true n 4096 h))) ∙ cond-true _ _ _ h
