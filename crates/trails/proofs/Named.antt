-- The set of the cells that trail entries name, as one entry after another is marked.
use Rattle.std.proofs.Common.{◌≡◌, ℕ, ◌+◌, ◌<◌, ◌≤◌, Bool, cond, ◌||◌, eqb, List, [], ◌∷◌, ◌++◌, length, get_or, take, drop, sym, ap, ◌∙◌, inl, inr, arith}
use Rattle.std.proofs.lemmas.List.{take_more, drop-append-le, length-take-le}
use Rattle.std.proofs.lemmas.Bool.{cases_lt, le-ltb, cond-false}
use Rattle.std.proofs.lemmas.Bool.Decides.{nat_tests}
use Rattle.cells.specs.declared.cell.Cell.{Cell}
use Rattle.cells.specs.declared.cell.Cell.TheVariants.{Reference}
use Rattle.marks.specs.Sets.{is_cell, with_cell}
use Rattle.marks.proofs.Sets.{with_below}
use Rattle.heaps.specs.Lists.{is_in}
use Rattle.heaps.specs.Leads.{Heap, heap_of}
use Rattle.heaps.specs.Levels.{unbind_all}
use Rattle.heaps.specs.RuleTests.{misnames, stray_entry}
use Rattle.heaps.proofs.EachLaws.{is_in_append}
use Rattle.heaps.proofs.UnbindLaws.{heap_of_unbind_all, heap_of_past}
use Rattle.trails.specs.Named.{Names}

pub names_push : (s : ℕ → Bool) (es : List ℕ) (e : ℕ) → Names s es → Names (with_cell s e) (es ++ (e ∷ []))
names_push s es e f k lt =
    let g = f k lt in
    let more = is_in_append k es (e ∷ []) in
    elim (cases_lt e 4096) [
      | inl c ↦ let w = ap (λ (u : ℕ → Bool). u k) (with_below s e c) in grind (arith, nat_tests)
      | inr c ↦ let w = ap (λ (u : ℕ → Bool). u k) (cond-false (is_cell e) (λ (i : ℕ). eqb i e || s i) s (le-ltb e 4096 c)) in grind (arith, nat_tests)
    ]

pub names_more : (s : ℕ → Bool) (trail : List ℕ) (j : ℕ) → j < length trail → Names s (take j trail)
    → Names (with_cell s (get_or trail j 0)) (take (j + 1) trail)
names_more s trail j lt f k c = names_push s (take j trail) (get_or trail j 0) f k c ∙ ap (is_in k) (sym (take_more trail j 0 lt))

-- The entries from `start` on, as far as place j.
pub names_from : (s : ℕ → Bool) (trail : List ℕ) (start j : ℕ) → start ≤ j → j < length trail → Names s (drop start (take j trail))
    → Names (with_cell s (get_or trail j 0)) (drop start (take (j + 1) trail))
names_from s trail start j le lt f k c =
    names_push s (drop start (take j trail)) (get_or trail j 0) f k c
    ∙ ap (is_in k) (sym (ap (drop start) (take_more trail j 0 lt)
    ∙ drop-append-le start (take j trail) (get_or trail j 0 ∷ []) (let e = length-take-le j trail (omega arith) in omega arith)))

-- A cell that is not in use is unbound in any case, so the set tells what each cell holds once the entries are undone.
pub seen_same : (cells : List Cell) → length cells ≤ 4096 → (s : ℕ → Bool) (es : List ℕ) → Names s es
    → (i : ℕ) → cond (s i) (Reference i) (heap_of cells i) ≡ heap_of (unbind_all cells es) i
seen_same cells fits s es f i =
    let seen = heap_of_unbind_all cells es i in
    elim (cases_lt i 4096) [
      | inl c ↦ let e = f i c in cc
      | inr c ↦ let e = heap_of_past cells i (omega arith) in grind (arith, nat_tests)
    ]

module _ (h : Heap) (n : ℕ) (fits : n ≤ 4096) where
  pub entry_same : (s : ℕ → Bool) (trail : List ℕ) (j : ℕ) → Names s (take j trail)
      → (misnames h n (get_or trail j 0) || s (get_or trail j 0)) ≡ stray_entry h n trail j
  entry_same s trail j f =
      elim (cases_lt (get_or trail j 0) 4096) [
        | inl c ↦ ap (λ (b : Bool). misnames h n (get_or trail j 0) || b) (f (get_or trail j 0) c)
        | inr c ↦ grind (arith, nat_tests)
      ]
