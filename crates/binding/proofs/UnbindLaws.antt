-- Giving up bindings, the last one first, gives back the tables as they were before.
use Rattle.std.proofs.Common.{◌≡◌, ℕ, zero, suc, ◌≤◌, Bool, true, false, cond, List, [], ◌∷◌, ◌++◌, reverse, length, get_or, take, set, sym, refl, ap, ◌∙◌, ap₂, arith}
use mathlib.Core.List.{reverse-append}
use Rattle.std.proofs.lemmas.List.{take_all, set-set, set-get_or}
use Rattle.cells.specs.declared.cell.Cell.{Cell}
use Rattle.cells.specs.declared.cell.Cell.TheVariants.{Reference}
use Rattle.tables.specs.Tables.{Tables, with_trail}
use Rattle.heaps.specs.Leads.{heap_of, unbound}
use Rattle.heaps.specs.Levels.{unbind_all}
use Rattle.heaps.specs.Lists.{Each}
use Rattle.heaps.specs.Binding.{trailed, bind}
use Rattle.heaps.proofs.WordKinds.{unbound_is}
use Rattle.binding.specs.Unbinding.{unbind_to}

reverse_last : (xs : List ℕ) (x : ℕ) → reverse (xs ++ (x ∷ [])) ≡ x ∷ reverse xs
reverse_last xs x = reverse-append xs (x ∷ [])

-- the cell that was bound last is made unbound first
pub unbind_last : (cells : List Cell) (xs ys : List ℕ) (x : ℕ) → xs ≡ ys ++ (x ∷ []) → unbind_all (set cells x (Reference x)) (reverse ys) ≡ unbind_all cells (reverse xs)
unbind_last cells xs ys x popped = sym (ap (λ l. unbind_all cells (reverse l)) popped ∙ ap (unbind_all cells) (reverse_last ys x))

-- what holds of each member holds of each in front
pub each_front : (P : ℕ → Type 0) (xs ys : List ℕ) → Each P (xs ++ ys) → Each P xs
each_front P [] ys e = tt
each_front P (x ∷ xs) ys e = (e.0, each_front P xs ys e.1)

set_same : (cells : List Cell) (x : ℕ) → get_or cells x (Reference x) ≡ Reference x → set cells x (Reference x) ≡ cells
set_same cells x e = ap (set cells x) (sym e) ∙ set-get_or cells x (Reference x)

take_front : (top : ℕ) (xs : List ℕ) (x : ℕ) → top ≤ length xs → take top (xs ++ (x ∷ [])) ≡ take top xs
take_front zero xs x h = refl
take_front (suc top) [] x h = absurd (omega arith)
take_front (suc top) (y ∷ xs) x h = ap (λ l. y ∷ l) (take_front top xs x (omega arith))

-- Without bindings nothing is given up,
pub unbind_none : (t : Tables) → unbind_to t [] (length t.trail) ≡ t
unbind_none t = ap (with_trail t) (take_all (length t.trail) t.trail (omega arith))

-- and one binding more is given up too.
pub unbind_bind : (t : Tables) (cells : List ℕ) (top x : ℕ) (w : Cell) → unbound (heap_of t.heap) x ≡ true → top ≤ length t.trail
    → unbind_to (bind t x w) (cells ++ (x ∷ [])) top ≡ unbind_to t cells top
unbind_bind t cells top x w free low =
    ap₂ (λ (hs : List Cell) (es : List ℕ). record { heap = hs; registers = t.registers; trail = es; choices = t.choices })
    (ap (unbind_all (set t.heap x w)) (reverse_last cells x) ∙ ap (λ (hs : List Cell). unbind_all hs (reverse cells)) (set-set t.heap x w (Reference x) ∙ set_same t.heap x (unbound_is (heap_of t.heap) x free)))
    (by (trailed t.choices x))
  where
    by : (b : Bool) → take top (cond b (t.trail ++ (x ∷ [])) t.trail) ≡ take top t.trail
    by true = take_front top t.trail x low
    by false = refl
