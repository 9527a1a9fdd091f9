-- A new unbound variable and a new structure keep the rules, and a register may take the reference or the pointer to them.
use Rattle.std.proofs.Common.{◌≡◌, ℕ, zero, suc, ◌+◌, ◌-◌, ◌<◌, ◌≤◌, true, false, ◌⊎◌, List, [], ◌∷◌, ◌++◌, length, get_or, sym, refl, ap, ◌∙◌, subst, inl, inr, arith}
use Rattle.std.proofs.lemmas.List.{get_or-append_right}
use Rattle.std.proofs.lemmas.Bool.{lt-ltb, cases_order}
use Rattle.cells.specs.declared.cell.Cell.{Cell}
use Rattle.cells.specs.declared.cell.Cell.TheVariants.{Reference, Pointer, Functor, Atom, Integer}
use Rattle.cells.specs.Cells.{in_range}
use Rattle.tables.specs.Tables.{Tables, used}
use Rattle.heaps.specs.Lists.{Each}
use Rattle.heaps.specs.Leads.{Heap, heap_of, is_functor}
use Rattle.heaps.specs.Rules.{WordKeeps}
use Rattle.heaps.specs.LevelLaws.{Stands, Keeps, new_variable, new_structure, ArgumentsKeep}
use Rattle.heaps.proofs.GrowRules.{NewCell, word, variable, functor, used_grown, rules_grown, fits_grown}

-- the k-th new cell
new_is : (t : Tables) (extra : List Cell) (i k : ℕ) → i ≡ used t + k → heap_of (t.heap ++ extra) i ≡ get_or extra k (Reference i)
new_is t extra i k e = get_or-append_right t.heap extra (used t) i (Reference i) refl (omega arith) ∙ ap (λ (m : ℕ). get_or extra m (Reference i)) (let d : i - used t ≡ k = omega arith in d)

pub stands_new_variable : (t : Tables) → used t < 4096 → Stands t → Stands (new_variable t) × Keeps (new_variable t) (Reference (used t))
stands_new_variable t room s = (
  (
    rules_grown t extra s.0 (λ i p q. variable (at i (let u = used_grown t extra in omega arith))),
    fits_grown t extra (omega arith) (in_range_lem, tt) s.1,
  ),
  ((let u = used_grown t extra in omega arith, ap is_functor (at (used t) refl)), in_range_lem),
)
  where
    extra : List Cell
    extra = Reference (used t) ∷ []

    in_range_lem : in_range (Reference (used t)) ≡ true
    in_range_lem = lt-ltb (used t) 4096 room

    at : (i : ℕ) → i ≡ used t → heap_of (t.heap ++ extra) i ≡ Reference i
    at i e = new_is t extra i 0 (omega arith) ∙ ap Reference (sym e)

-- what an argument may be, at its cell
abbrev Argument : Tables → ℕ → Cell → Type 0
Argument t i w = Keeps t w ⊎ (w ≡ Reference i)

argument_at : (t : Tables) (i : ℕ) (ws : List Cell) → ArgumentsKeep t i ws → (k : ℕ) (d : Cell) → k < length ws → Argument t (i + k) (get_or ws k d)
argument_at t i [] a k d lt = absurd (omega arith)
argument_at t i (w ∷ ws) a zero d lt = subst (λ (j : ℕ). Argument t j w) (let e : i ≡ i + 0 = omega arith in e) a.0
argument_at t i (w ∷ ws) a (suc k) d lt = subst (λ (j : ℕ). Argument t j (get_or ws k d)) (let e : suc i + k ≡ i + suc k = omega arith in e) (argument_at t (suc i) ws a.1 k d (omega arith))

arguments_ranged : (t : Tables) (i : ℕ) (ws : List Cell) → i + length ws ≤ 4096 → ArgumentsKeep t i ws → Each (λ w. in_range w ≡ true) ws
arguments_ranged t i [] room a = tt
arguments_ranged t i (w ∷ ws) room a = (by a.0, arguments_ranged t (suc i) ws (omega arith) a.1)
  where
    by : Argument t i w → in_range w ≡ true
    by (inl k) = k.1
    by (inr e) = ap in_range e ∙ lt-ltb i 4096 (omega arith)

no_functor : (h : Heap) (n : ℕ) (w : Cell) → WordKeeps h n w → is_functor w ≡ false
no_functor h n (Reference m) k = refl
no_functor h n (Pointer m) k = refl
no_functor h n (Functor name arity) k = absurd k
no_functor h n (Atom a) k = refl
no_functor h n (Integer z) k = refl

module _ (t : Tables) (name arity : ℕ) (args : List Cell) (full : length args ≡ arity) (a : ArgumentsKeep t (suc (used t)) args) where
  abbrev extra : List Cell
  extra = Functor name arity ∷ args

  abbrev s : Tables
  s = new_structure t name arity args

  first_is : heap_of s.heap (used t) ≡ Functor name arity
  first_is = new_is t extra (used t) 0 (omega arith)

  argument : (j : ℕ) → used t < j → j ≤ used t + arity → Argument t j (heap_of s.heap j)
  argument j p q = let k : j ≡ used t + suc (j - suc (used t)) = omega arith in let m : suc (used t) + (j - suc (used t)) ≡ j = omega arith in
      subst (Argument t j) (sym (new_is t extra j (suc (j - suc (used t))) k))
      (subst (λ (i : ℕ). Argument t i (get_or args (j - suc (used t)) (Reference j))) m (argument_at t (suc (used t)) args a (j - suc (used t)) (Reference j) (omega arith)))

  plain : (j : ℕ) → used t < j → j ≤ used t + arity → is_functor (heap_of s.heap j) ≡ false
  plain j p q = by (argument j p q)
    where
      by : Argument t j (heap_of s.heap j) → is_functor (heap_of s.heap j) ≡ false
      by (inl k) = no_functor (heap_of t.heap) (used t) (heap_of s.heap j) k.0
      by (inr e) = ap is_functor e

  used_is : used s ≡ suc (used t + arity)
  used_is = let u = used_grown t extra in omega arith

  news : (i : ℕ) → used t ≤ i → i < used s → NewCell (heap_of t.heap) (heap_of s.heap) (used t) (used s) i (heap_of s.heap i)
  news i p q = by (cases_order i (used t))
    where
      rest : Argument t i (heap_of s.heap i) → NewCell (heap_of t.heap) (heap_of s.heap) (used t) (used s) i (heap_of s.heap i)
      rest (inl k) = word k.0
      rest (inr e) = variable e

      by : (i ≡ used t) ⊎ ((i < used t) ⊎ (used t < i)) → NewCell (heap_of t.heap) (heap_of s.heap) (used t) (used s) i (heap_of s.heap i)
      by (inl e) = let u = used_is in functor name arity (ap (heap_of s.heap) e ∙ first_is) (omega arith) (λ j x y. plain j (omega arith) (omega arith))
      by (inr (inl lt)) = absurd (omega arith)
      by (inr (inr lt)) = let u = used_is in rest (argument i lt (omega arith))

  structure : in_range (Functor name arity) ≡ true → used t + arity < 4096 → Stands t → Stands s × Keeps s (Pointer (used t))
  structure ranged room o = (
    (rules_grown t extra o.0 news, fits_grown t extra (omega arith) (ranged, arguments_ranged t (suc (used t)) args (omega arith) a) o.1),
    ((let u = used_is in omega arith, ap is_functor first_is), lt-ltb (used t) 4096 (omega arith)),
  )

pub stands_new_structure : (t : Tables) (name arity : ℕ) (args : List Cell) → length args ≡ arity → in_range (Functor name arity) ≡ true → used t + arity < 4096
    → ArgumentsKeep t (suc (used t)) args → Stands t → Stands (new_structure t name arity args) × Keeps (new_structure t name arity args) (Pointer (used t))
stands_new_structure t name arity args full ranged room a o = structure t name arity args full a ranged room o
