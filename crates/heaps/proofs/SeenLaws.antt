-- What the cells hold with trail entries undone.
use Rattle.std.proofs.Common.{◌≡◌, ℕ, ◌<◌, Bool, true, false, cond, ◌||◌, eqb, List, [], ◌∷◌, ◌++◌, length, set, sym, refl, ap, ◌∙◌, ap₂, arith, length-set, get_or-set_other, get_or-set_same}
use native.Mathlib.Decide.{dec_lt}
use lib.ListN.{get_or-eq_default}
use Rattle.std.proofs.lemmas.Bool.{both_ways, eqb-true, eqb-false, ne_eqb, eq-eqb, or_parts, or_left}
use Rattle.cells.specs.declared.cell.Cell.{Cell}
use Rattle.cells.specs.declared.cell.Cell.TheVariants.{Reference}
use Rattle.heaps.specs.Lists.{is_in, Different}
use Rattle.heaps.specs.Leads.{heap_of}
use Rattle.heaps.specs.Levels.{unbind_all}

pub length_unbind : (cells : List Cell) (es : List ℕ) → length (unbind_all cells es) ≡ length cells
length_unbind cells [] = refl
length_unbind cells (e ∷ es) = length_unbind (set cells e (Reference e)) es ∙ length-set cells e (Reference e)

unbind_one : (cells : List Cell) (e i : ℕ) → heap_of (set cells e (Reference e)) i ≡ cond (eqb e i) (Reference i) (heap_of cells i)
unbind_one cells e i = test (eqb e i) refl (dec_lt i (length cells))
  where
    test : (b : Bool) → eqb e i ≡ b → Dec (i < length cells) → heap_of (set cells e (Reference e)) i ≡ cond b (Reference i) (heap_of cells i)
    test true p (yes q) = rw (eqb-true e i p) (get_or-set_same cells i (Reference i) (Reference i) q)
    test true p (no q) = get_or-eq_default (set cells e (Reference e)) (Reference i) (let z = length-set cells e (Reference e) in omega arith)
    test false p q = get_or-set_other cells e i (Reference e) (Reference i) (λ r. eqb-false e i p (sym r))

-- a cell that an entry names is unbound, every other is as it was
pub unbind_at : (cells : List Cell) (es : List ℕ) (i : ℕ) → heap_of (unbind_all cells es) i ≡ cond (is_in i es) (Reference i) (heap_of cells i)
unbind_at cells [] i = refl
unbind_at cells (e ∷ es) i =
    unbind_at (set cells e (Reference e)) es i ∙ ap (cond (is_in i es) (Reference i)) (unbind_one cells e i) ∙ both_tests (is_in i es) (eqb e i)
  where
    both_tests : (a b : Bool) → cond a (Reference i) (cond b (Reference i) (heap_of cells i)) ≡ cond (b || a) (Reference i) (heap_of cells i)
    both_tests true true = refl
    both_tests true false = refl
    both_tests false true = refl
    both_tests false false = refl

pub in_joined : (i : ℕ) (xs ys : List ℕ) → is_in i (xs ++ ys) ≡ (is_in i xs || is_in i ys)
in_joined i [] ys = refl
in_joined i (x ∷ xs) ys = ap (λ (b : Bool). eqb x i || b) (in_joined i xs ys) ∙ regroup (eqb x i)
  where
    regroup : (a : Bool) → (a || (is_in i xs || is_in i ys)) ≡ ((a || is_in i xs) || is_in i ys)
    regroup true = refl
    regroup false = refl

-- different numbers and one more that is none of them
pub different_push : (xs : List ℕ) (x : ℕ) → Different xs → is_in x xs ≡ false → Different (xs ++ (x ∷ []))
different_push [] x d e = (refl, tt)
different_push (y ∷ ys) x d e = (
  in_joined y ys (x ∷ []) ∙ ap₂ ◌||◌ d.0 (ap (λ (b : Bool). b || false) (ne_eqb x y other)),
  different_push ys x d.1 (or_parts (eqb y x) (is_in x ys) e).1,
)
  where
    other : x ≡ y → ⊥
    other p = both_ways (eqb y x || is_in x ys) e (or_left (eqb y x) (is_in x ys) (eq-eqb y x (sym p)))
