-- Undoing makes cells unbound and gives up roots, so what is reached afterwards was reached before.
use Rattle.std.proofs.Common.{◌≡◌, ℕ, zero, suc, ◌⊎◌, List, [], ◌∷◌, length, take, drop, set, sym, refl, ap, ◌∙◌, subst, inl, inr, ⊎_elim, arith, length-take, get_or-set_other, get_or-take, get_or-set_same}
use lib.ListN.{get_or-eq_default}
use lib.Seq.{set_out}
use Rattle.std.proofs.lemmas.Bool.{cases_eq, cases_lt}
use Rattle.cells.specs.declared.cell.Cell.{Cell}
use Rattle.cells.specs.declared.cell.Cell.TheVariants.{Reference}
use Rattle.tables.specs.Tables.{Choice, Tables}
use Rattle.heaps.specs.Lists.{Among}
use Rattle.heaps.specs.Leads.{Heap, heap_of, LeadsBy}
use Rattle.heaps.specs.Reached.{Reaches, direct, onward, saved_words, roots, Reached}
use Rattle.heaps.specs.Levels.{unbind_all, seen_from, back_to, last_of, last}
use Rattle.heaps.specs.ReachedLaws.{SomeUnbound, UnboundReaches, LastReached, UndoReached}
use Rattle.heaps.proofs.MemberLaws.{among_right}
use Rattle.heaps.proofs.ReachesLaws.{reaches_in}

pub unbound_reaches : UnboundReaches
unbound_reaches h g loose ws vs sub k r = reaches_in g ws (Reaches h vs) (record {
  starts = λ w j m l. direct (sub w m) l;
  goes_on = λ i j q l. by i j q l (loose i);
}) k r
  where
    by : (i j : ℕ) → Reaches h vs i → LeadsBy i (g i) j → (g i ≡ Reference i) ⊎ (g i ≡ h i) → Reaches h vs j
    by i j q l (inl e) =
        let p : LeadsBy i (Reference i) j = subst (λ c. LeadsBy i c j) e l in
        let a = p.0 in let b = p.1 in let s : i ≡ j = omega arith in
        subst (Reaches h vs) s q
    by i j q l (inr e) = onward q (subst (λ c. LeadsBy i c j) e l)

some_more : (h g f : Heap) → SomeUnbound h g → SomeUnbound g f → SomeUnbound h f
some_more h g f a b i = ⊎_elim inl (λ p. ⊎_elim (λ q. inl (p ∙ q)) (λ q. inr (p ∙ q)) (a i)) (b i)

set_some : (cells : List Cell) (x : ℕ) → SomeUnbound (heap_of cells) (heap_of (set cells x (Reference x)))
set_some cells x i = ⊎_elim same (λ ne. inr (get_or-set_other cells x i (Reference x) (Reference i) ne)) (cases_eq i x)
  where
    same : i ≡ x → (heap_of (set cells x (Reference x)) i ≡ Reference i) ⊎ (heap_of (set cells x (Reference x)) i ≡ heap_of cells i)
    same e =
        ⊎_elim
        (λ lt. inl (subst (λ y. heap_of (set cells x (Reference x)) y ≡ Reference y) (sym e) (get_or-set_same cells x (Reference x) (Reference x) lt)))
        (λ le. inr (ap (λ l. heap_of l i) (set_out cells x (Reference x) le)))
        (cases_lt x (length cells))

unbind_some : (cells : List Cell) (es : List ℕ) → SomeUnbound (heap_of cells) (heap_of (unbind_all cells es))
unbind_some cells [] = λ i. inr refl
unbind_some cells (e ∷ es) =
    some_more (heap_of cells) (heap_of (set cells e (Reference e))) (heap_of (unbind_all (set cells e (Reference e)) es))
    (set_some cells e) (unbind_some (set cells e (Reference e)) es)

take_some : (n : ℕ) (cells : List Cell) → SomeUnbound (heap_of cells) (heap_of (take n cells))
take_some n cells i =
    ⊎_elim
    (λ lt. inr (get_or-take n cells i (Reference i) lt))
    (λ le. let k = length-take n cells in inl (get_or-eq_default (take n cells) (Reference i) (omega arith)))
    (cases_lt i n)

back_some : (c : Choice) (cs : List Choice) (t : Tables) → SomeUnbound (heap_of t.heap) (heap_of (back_to c cs t).heap)
back_some c cs t =
    some_more (heap_of t.heap) (heap_of (seen_from c t.heap t.trail)) (heap_of (back_to c cs t).heap)
    (unbind_some t.heap (drop c.trail_top t.trail)) (take_some c.heap_top (seen_from c t.heap t.trail))

pub last_reached : LastReached
last_reached t k = by t.choices refl
  where
    by : (ds : List Choice) → t.choices ≡ ds → Reached (last_of ds t) k → Reached t k
    by [] e r = r
    by (c ∷ cs) e r =
        unbound_reaches (heap_of t.heap) (heap_of (back_to c cs t).heap) (back_some c cs t) (roots (back_to c cs t)) (roots t)
        (λ w m. among_right t.registers (subst (λ ds. Among w (saved_words ds)) (sym e) m)) k r

pub undo_reached : UndoReached
undo_reached t zero k r = r
undo_reached t (suc n) k r = last_reached t k (undo_reached (last t) n k r)
