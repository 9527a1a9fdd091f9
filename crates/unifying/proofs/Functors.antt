-- Functor cells: two of the same label are the same word.
use Rattle.std.proofs.Common.{◌≡◌, ℕ, suc, ◌+◌, true, false, eqb, List, ◌∷◌, sym, refl, ap, ◌∙◌, ap₂, arith}
use Rattle.std.proofs.lemmas.Bool.{both_ways, eqb-true, eq-eqb, and_parts, and_from}
use Rattle.cells.specs.declared.cell.Cell.{Cell}
use Rattle.cells.specs.declared.cell.Cell.TheVariants.{Reference, Pointer, Functor, Atom, Integer}
use Rattle.tables.specs.Tables.{Tables, cell_at}
use Rattle.terms.specs.Terms.{same_label}
use Rattle.heaps.specs.Leads.{is_functor}
use Rattle.heaps.specs.Spelling.{label_of, arity_of}
use Rattle.heaps.specs.LevelLaws.{Keeps}
use Rattle.heaps.proofs.WordKinds.{false_of}
use Rattle.calls.specs.Unifying.{Pair, rows}
use Rattle.classes.specs.Merges.{Merge, same_class}
use Rattle.unifying.specs.Merging.{same_functor, arguments}
use Rattle.unifying.specs.Walking.{StructuresMet, joins, clashes}

functors_same : (c d : Cell) → is_functor c ≡ true → is_functor d ≡ true → same_label (label_of c) (label_of d) ≡ true → c ≡ d
functors_same (Functor f a) (Functor g b) x y e = let p = and_parts (eqb f g) (eqb a b) e in ap₂ Functor (eqb-true f g p.0) (eqb-true a b p.1)
functors_same (Functor f a) (Reference n) x y e = absurd (both_ways false refl y)
functors_same (Functor f a) (Pointer n) x y e = absurd (both_ways false refl y)
functors_same (Functor f a) (Atom n) x y e = absurd (both_ways false refl y)
functors_same (Functor f a) (Integer z) x y e = absurd (both_ways false refl y)
functors_same (Reference n) d x y e = absurd (both_ways false refl x)
functors_same (Pointer n) d x y e = absurd (both_ways false refl x)
functors_same (Atom n) d x y e = absurd (both_ways false refl x)
functors_same (Integer z) d x y e = absurd (both_ways false refl x)

functor_self : (c : Cell) → is_functor c ≡ true → same_label (label_of c) (label_of c) ≡ true
functor_self (Functor f a) x = and_from (eqb f f) (eqb a a) (eq-eqb f f refl) (eq-eqb a a refl)
functor_self (Reference n) x = absurd (both_ways false refl x)
functor_self (Pointer n) x = absurd (both_ways false refl x)
functor_self (Atom n) x = absurd (both_ways false refl x)
functor_self (Integer z) x = absurd (both_ways false refl x)

module _ (t : Tables) (p q : ℕ) (kp : Keeps t (Pointer p)) (kq : Keeps t (Pointer q)) (ms : List Merge) (ps : List Pair) (apart : same_class ms p q ≡ false) where
  pub functors_clash : (cell_at t p ≡ cell_at t q → ⊥) → StructuresMet t p q ms ps ms ps false
  functors_clash ne = clashes apart (false_of _ (λ l. ne (functors_same (cell_at t p) (cell_at t q) kp.0.1 kq.0.1 l)))

  -- the merge is recorded, and the arguments are to be gone through
  pub functors_join : (later : List Merge) (qs : List Pair) (k : ℕ) → cell_at t p ≡ cell_at t q → later ≡ (p, q) ∷ ms → k ≡ arity_of (cell_at t p)
      → qs ≡ rows (p + 1) (q + 1) k ∷ ps → StructuresMet t p q ms ps later qs true
  functors_join later qs k same grown is more = rw (grown, pushed) (joins apart alike)
    where
      alike : same_functor t p q ≡ true
      alike = ap (λ (c : Cell). same_label (label_of (cell_at t p)) (label_of c)) (sym same) ∙ functor_self (cell_at t p) kp.0.1

      pushed : qs ≡ arguments t p q ∷ ps
      pushed =
          let a : p + 1 ≡ suc p = omega arith in
          let b : q + 1 ≡ suc q = omega arith in
          more ∙ ap (λ i. rows i (q + 1) k ∷ ps) a ∙ ap (λ j. rows (suc p) j k ∷ ps) b ∙ ap (λ n. rows (suc p) (suc q) n ∷ ps) is
