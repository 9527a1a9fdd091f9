-- What a heap holds after the cells that some trail entries name are made unbound.
use Rattle.std.proofs.Common.{◌≡◌, ℕ, zero, suc, ◌<◌, ◌≤◌, Bool, true, false, cond, ◌||◌, eqb, ◌⊎◌, List, [], ◌∷◌, ◌++◌, length, get_or, take, drop, set, sym, refl, ap, ◌∙◌, subst, inl, inr, arith}
use Rattle.std.proofs.lemmas.List.{length-set, length-take-le, get_or-set_same, get_or-set_other, get_or-take, get_or_past, get_or_default, ext_get_or}
use Rattle.std.proofs.lemmas.Bool.{eqb-true, eqb-false, cases_lt}
use Rattle.cells.specs.declared.cell.Cell.{Cell}
use Rattle.cells.specs.declared.cell.Cell.TheVariants.{Reference}
use Rattle.heaps.specs.Lists.{is_in, Each}
use Rattle.heaps.specs.Leads.{heap_of}
use Rattle.heaps.specs.Levels.{unbind_all}
use Rattle.heaps.proofs.EachLaws.{each_set}

pub length_unbind_all : (l : List Cell) (es : List ℕ) → length (unbind_all l es) ≡ length l
length_unbind_all l [] = refl
length_unbind_all l (e ∷ es) = length_unbind_all (set l e (Reference e)) es ∙ length-set l e (Reference e)

-- the undone heap, cell by cell: the cells that the entries name are unbound
abbrev pub undone : List Cell → List ℕ → ℕ → Cell
undone l es i = cond (is_in i es) (Reference i) (heap_of l i)

heap_of_set : (l : List Cell) (e i : ℕ) → heap_of (set l e (Reference e)) i ≡ cond (eqb e i) (Reference i) (heap_of l i)
heap_of_set l e i = test (eqb e i) refl (cases_lt i (length l))
  where
    test : (b : Bool) → eqb e i ≡ b → (i < length l) ⊎ (length l ≤ i) → heap_of (set l e (Reference e)) i ≡ cond b (Reference i) (heap_of l i)
    test true p (inl q) = subst (λ (j : ℕ). heap_of (set l j (Reference j)) i ≡ Reference i) (sym (eqb-true e i p)) (get_or-set_same l i (Reference i) (Reference i) q)
    test true p (inr q) = get_or_past (set l e (Reference e)) i (Reference i) (let k = length-set l e (Reference e) in omega arith)
    test false p q = get_or-set_other l e i (Reference e) (Reference i) (λ r. eqb-false e i p (sym r))

pub heap_of_unbind_all : (l : List Cell) (es : List ℕ) (i : ℕ) → heap_of (unbind_all l es) i ≡ undone l es i
heap_of_unbind_all l [] i = refl
heap_of_unbind_all l (e ∷ es) i = heap_of_unbind_all (set l e (Reference e)) es i ∙ ap (cond (is_in i es) (Reference i)) (heap_of_set l e i) ∙ test (is_in i es) (eqb e i)
  where
    test : (a b : Bool) → cond a (Reference i) (cond b (Reference i) (heap_of l i)) ≡ cond (b || a) (Reference i) (heap_of l i)
    test true true = refl
    test true false = refl
    test false true = refl
    test false false = refl

pub heap_of_take : (k : ℕ) (l : List Cell) (i : ℕ) → i < k → heap_of (take k l) i ≡ heap_of l i
heap_of_take k l i lt = get_or-take k l i (Reference i) lt

pub heap_of_past : (l : List Cell) (i : ℕ) → length l ≤ i → heap_of l i ≡ Reference i
heap_of_past l i le = get_or_past l i (Reference i) le

-- two heaps that hold the same in their first k cells have these in common
pub take_same : (k : ℕ) (l m : List Cell) → k ≤ length l → k ≤ length m → ((i : ℕ) → i < k → heap_of l i ≡ heap_of m i) → take k l ≡ take k m
take_same k l m p q f = ext_get_or (Reference 0) (take k l) (take k m) (length-take-le k l p ∙ sym (length-take-le k m q)) at
  where
    at : (i : ℕ) → i < length (take k l) → get_or (take k l) i (Reference 0) ≡ get_or (take k m) i (Reference 0)
    at i lt = let a : i < k = let u = length-take-le k l p in omega arith in
        get_or-take k l i (Reference 0) a ∙ get_or_default l i (Reference 0) (Reference i) (omega arith) ∙ f i a
        ∙ get_or_default m i (Reference i) (Reference 0) (omega arith) ∙ sym (get_or-take k m i (Reference 0) a)

-- what is said of each cell stays true if it is true of the unbound ones
pub each_unbind_all : (P : Cell → Type 0) (es : List ℕ) → Each (λ e. P (Reference e)) es → (l : List Cell) → Each P l → Each P (unbind_all l es)
each_unbind_all P [] f l d = d
each_unbind_all P (e ∷ es) f l d = each_unbind_all P es f.1 (set l e (Reference e)) (each_set P l e (Reference e) f.0 d)

-- the entries from place j on, as those below place k and the others
pub drop_split : (es : List ℕ) (j k : ℕ) → j ≤ k → drop j es ≡ drop j (take k es) ++ drop k es
drop_split es zero zero le = refl
drop_split [] zero (suc k) le = refl
drop_split (x ∷ xs) zero (suc k) le = ap (◌∷◌ x) (drop_split xs zero k (omega arith))
drop_split es (suc j) zero le = absurd (omega arith)
drop_split [] (suc j) (suc k) le = refl
drop_split (x ∷ xs) (suc j) (suc k) le = drop_split xs j k (omega arith)
