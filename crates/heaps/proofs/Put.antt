-- A heap with one cell changed: what its cells hold, and when it keeps rules 1 to 3.
use Rattle.std.proofs.Common.{◌≡◌, ℕ, ◌<◌, Bool, true, false, cond, eqb, List, length, set, sym, refl, ap, ◌∙◌, subst, arith, get_or-set_other, get_or-set_same}
use mathlib.Core.Path.{fun_ext}
use Rattle.std.proofs.lemmas.Bool.{both_ways, eqb-true, eqb-false, ne_eqb}
use Rattle.cells.specs.declared.cell.Cell.{Cell}
use Rattle.cells.specs.declared.cell.Cell.TheVariants.{Reference, Pointer, Functor}
use Rattle.heaps.specs.Leads.{Heap, heap_of, put, is_functor}
use Rattle.heaps.specs.Rules.{WordKeeps}
use Rattle.heaps.proofs.Sound.{Sound}
use Rattle.heaps.proofs.WordKinds.{keeps_word}

pub heap_set : (cells : List Cell) (x : ℕ) (c : Cell) → x < length cells → heap_of (set cells x c) ≡ put (heap_of cells) x c
heap_set cells x c lt = fun_ext at
  where
    at : (i : ℕ) → heap_of (set cells x c) i ≡ put (heap_of cells) x c i
    at i = test (eqb i x) refl
      where
        test : (b : Bool) → eqb i x ≡ b → heap_of (set cells x c) i ≡ cond b c (heap_of cells i)
        test true e = rw (eqb-true i x e) (get_or-set_same cells x c (Reference x) lt)
        test false e = get_or-set_other cells x i c (Reference i) (eqb-false i x e)

-- the change of a cell to a word of the same kind changes no kind
pub put_kind : (h : Heap) (x m : ℕ) (c : Cell) → is_functor (h x) ≡ is_functor c → is_functor (put h x c m) ≡ is_functor (h m)
put_kind h x m c e = test (eqb m x) refl
  where
    test : (b : Bool) → eqb m x ≡ b → is_functor (cond b c (h m)) ≡ is_functor (h m)
    test true p = sym e ∙ ap (λ (k : ℕ). is_functor (h k)) (sym (eqb-true m x p))
    test false p = refl

pub put_sound : (h : Heap) (n x : ℕ) (c : Cell) → Sound h n → x < n → is_functor (h x) ≡ false → WordKeeps h n c → Sound (put h x c) n
put_sound h n x c s lt word w = record {
  beyond = λ i le. ap (λ (b : Bool). cond b c (h i)) (ne_eqb i x (λ e. omega arith)) ∙ s.beyond i le;
  references = λ i m l e. by_reference i m l (eqb i x) refl e;
  pointers = λ i m l e. by_pointer i m l (eqb i x) refl e;
  arguments = λ i f a j l e p q. let r = s.arguments i f a j l (was_functor i f a (eqb i x) refl e) p q in (r.0, kinds j ∙ r.1);
}
  where
    kinds : (m : ℕ) → is_functor (put h x c m) ≡ is_functor (h m)
    kinds m = put_kind h x m c (word ∙ sym (keeps_word h n c w))

    by_reference : (i m : ℕ) → i < n → (b : Bool) → eqb i x ≡ b → cond b c (h i) ≡ Reference m → (m < n) × (is_functor (put h x c m) ≡ false)
    by_reference i m l true p e = let r = subst (WordKeeps h n) e w in (r.0, kinds m ∙ r.1)
    by_reference i m l false p e = let r = s.references i m l e in (r.0, kinds m ∙ r.1)

    by_pointer : (i m : ℕ) → i < n → (b : Bool) → eqb i x ≡ b → cond b c (h i) ≡ Pointer m → (m < n) × (is_functor (put h x c m) ≡ true)
    by_pointer i m l true p e = let r = subst (WordKeeps h n) e w in (r.0, kinds m ∙ r.1)
    by_pointer i m l false p e = let r = s.pointers i m l e in (r.0, kinds m ∙ r.1)

    was_functor : (i f a : ℕ) → (b : Bool) → eqb i x ≡ b → cond b c (h i) ≡ Functor f a → h i ≡ Functor f a
    was_functor i f a true p e = absurd (both_ways (is_functor c) (keeps_word h n c w) (ap is_functor e))
    was_functor i f a false p e = e
