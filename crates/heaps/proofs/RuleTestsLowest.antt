-- The lowest place at fault, and the lowest line at fault of several parts.
use Rattle.std.proofs.Common.{◌≡◌, ℕ, zero, suc, ◌+◌, ◌<◌, ◌≤◌, Bool, true, false, cond, List, [], ◌∷◌, Some, None, Option, refl, ap, subst, inl, inr, arith}
use Rattle.std.proofs.lemmas.Bool.{both_ways, cases_eq, cases_order}
use Rattle.tables.specs.Tables.{Tables}
use Rattle.heaps.specs.declared.rule.Rule.{Rule}
use Rattle.heaps.specs.declared.rule.Rule.TheVariants.{References, Pointers, Arguments, Registers, Trail, Tops, Cycles, Levels}
use Rattle.heaps.specs.RuleTests.{Part, parts_of, lowest_from, plus_line, or_else, lowest_line}
use Rattle.heaps.specs.RuleTestLaws.{Faultless, AtFault}

-- k is the lowest of the m numbers from n on of which p holds
abbrev pub Least : (ℕ → Bool) → ℕ → ℕ → Option ℕ → Type 0
Least p n m None = (i : ℕ) → n ≤ i → i < n + m → p i ≡ false
Least p n m (Some k) = (n ≤ k) × (k < n + m) × (p k ≡ true) × ((i : ℕ) → n ≤ i → i < k → p i ≡ false)

module _ (p : ℕ → Bool) where
  either_place : (n i : ℕ) → n ≤ i → p n ≡ false → (suc n ≤ i → p i ≡ false) → p i ≡ false
  either_place n i a e f =
      elim (cases_eq n i) [
        | inl q ↦ subst (λ (x : ℕ). p x ≡ false) q e
        | inr q ↦ f (omega arith)
      ]

  least_more : (n m : ℕ) → p n ≡ false → (o : Option ℕ) → Least p (suc n) m o → Least p n (suc m) o
  least_more n m e None f = λ i a b. either_place n i a e (λ c. f i c (omega arith))
  least_more n m e (Some k) f =
      let a = f.0 in let b = f.1 in
      (omega arith, omega arith, f.2, λ i c d. either_place n i c e (λ g. f.3 i g d))

  pub lowest_least : (n m : ℕ) → Least p n m (lowest_from n m p)
  unfolding lowest_from
  lowest_least n zero = λ i a b. absurd (omega arith)
  lowest_least n (suc m) = by (p n) refl (lowest_least (suc n) m)
    where
      by : (b : Bool) → p n ≡ b → Least p (suc n) m (lowest_from (suc n) m p) → Least p n (suc m) (cond b (Some n) (lowest_from (suc n) m p))
      by true e f = (omega arith, omega arith, e, λ i a b. absurd (omega arith))
      by false e f = least_more n m e (lowest_from (suc n) m p) f

  -- Nothing else is the lowest.
  least_only : (n m : ℕ) (a b : Option ℕ) → Least p n m a → Least p n m b → a ≡ b
  least_only n m None None f g = refl
  least_only n m None (Some k) f g = absurd (both_ways (p k) (f k g.0 g.1) g.2)
  least_only n m (Some j) None f g = absurd (both_ways (p j) (g j f.0 f.1) f.2)
  least_only n m (Some j) (Some k) f g =
      elim (cases_order j k) [
        | inl q ↦ ap Some q
        | inr (inl q) ↦ absurd (both_ways (p j) (g.3 j f.0 q) f.2)
        | inr (inr q) ↦ absurd (both_ways (p k) (f.3 k g.0 q) g.2)
      ]

  pub least_lowest : (n m : ℕ) (o : Option ℕ) → Least p n m o → lowest_from n m p ≡ o
  least_lowest n m o f = least_only n m (lowest_from n m p) o (lowest_least n m) f

-- The lowest line.

-- the parts stand one after another, from line m on
abbrev pub Ascends : ℕ → List Part → Type 0
Ascends m [] = Unit {0}
Ascends m (p ∷ ps) = (m ≤ p.line) × Ascends (p.line + p.places) ps

pub parts_ascend : (t : Tables) (r : Rule) → Ascends 0 (parts_of t r)
parts_ascend t References = (omega arith, tt)
parts_ascend t Pointers = (omega arith, tt)
parts_ascend t Arguments = (omega arith, tt)
parts_ascend t Registers = (omega arith, (omega arith, tt))
parts_ascend t Trail = (omega arith, tt)
parts_ascend t Tops = (omega arith, (omega arith, tt))
parts_ascend t Cycles = (omega arith, tt)
parts_ascend t Levels = (omega arith, tt)

fault_from : (m : ℕ) (ps : List Part) → Ascends m ps → (l : ℕ) → AtFault ps l → m ≤ l
fault_from m [] a l f = absurd f
fault_from m (p ∷ ps) a l (inl f) = let b = a.0 in let e = f.3 in omega arith
fault_from m (p ∷ ps) a l (inr f) = let b = a.0 in let c = fault_from (p.line + p.places) ps a.1 l f in omega arith

pub faultless_not : (ps : List Part) (l : ℕ) → AtFault ps l → Faultless ps → ⊥
faultless_not [] l f g = f
faultless_not (p ∷ ps) l (inl f) g = both_ways (p.fault f.0) (g.0 f.0 f.1) f.2
faultless_not (p ∷ ps) l (inr f) g = faultless_not ps l f g.1

-- what the lowest line at fault is
abbrev pub LeastLine : List Part → Option ℕ → Type 0
LeastLine ps None = Faultless ps
LeastLine ps (Some l) = AtFault ps l × ((k : ℕ) → AtFault ps k → l ≤ k)

pub lowest_line_lem : (m : ℕ) (ps : List Part) → Ascends m ps → LeastLine ps (lowest_line ps)
lowest_line_lem m [] a = tt
lowest_line_lem m (p ∷ ps) a =
    by (lowest_from 0 p.places p.fault) (lowest_least p.fault 0 p.places)
    (lowest_line ps) (lowest_line_lem (p.line + p.places) ps a.1)
  where
    by : (o : Option ℕ) → Least p.fault 0 p.places o → (q : Option ℕ) → LeastLine ps q → LeastLine (p ∷ ps) (or_else (plus_line p.line o) q)
    by None f None g = ((λ i lt. f i (omega arith) (omega arith)), g)
    by None f (Some l) g = (inr g.0, lower)
      where
        lower : (k : ℕ) → AtFault (p ∷ ps) k → l ≤ k
        lower k (inl e) = absurd (both_ways (p.fault e.0) (f e.0 (omega arith) (let b = e.1 in omega arith)) e.2)
        lower k (inr e) = g.1 k e
    by (Some i) f q g = (inl (i, (let b = f.1 in omega arith), f.2, refl), lower)
      where
        lower : (k : ℕ) → AtFault (p ∷ ps) k → p.line + i ≤ k
        lower k (inl e) = elim (cases_order e.0 i) [
          | inl q ↦ let d = e.3 in omega arith
          | inr (inl q) ↦ absurd (both_ways (p.fault e.0) (f.3 e.0 (omega arith) q) e.2)
          | inr (inr q) ↦ let d = e.3 in omega arith
        ]
        lower k (inr e) = let b = f.1 in let c = fault_from (p.line + p.places) ps a.1 k e in omega arith
