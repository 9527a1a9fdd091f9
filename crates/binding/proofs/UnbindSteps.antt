-- Unbinding the cells that the trail names from an entry on, one after another.
use Rattle.std.proofs.Common.{◌≡◌, ℕ, zero, suc, ◌+◌, ◌-◌, ◌<◌, ◌≤◌, List, [], ◌∷◌, ◌++◌, length, get_or, take, drop, set, sym, refl, ap, ◌∙◌, arith}
use Rattle.std.proofs.lemmas.List.{take_more, get_or-drop, length-drop}
use Rattle.cells.specs.declared.cell.Cell.{Cell}
use Rattle.cells.specs.declared.cell.Cell.TheVariants.{Reference}
use Rattle.tables.specs.Tables.{Tables, used, with_heap, set_cell}
use Rattle.heaps.specs.Lists.{Each}
use Rattle.heaps.specs.Levels.{unbind_all}
use Rattle.heaps.specs.LevelLaws.{Stands}
use Rattle.heaps.proofs.UnbindLaws.{length_unbind_all}

unbind_all_push : (cells : List Cell) (es : List ℕ) (e : ℕ) → unbind_all cells (es ++ (e ∷ [])) ≡ set (unbind_all cells es) e (Reference e)
unbind_all_push cells [] e = refl
unbind_all_push cells (x ∷ es) e = unbind_all_push (set cells x (Reference x)) es e

-- what holds of each member holds of the one at a place inside
each_inside : {A : Type 0} (P : A → Type 0) (xs : List A) (i : ℕ) (d : A) → i < length xs → Each P xs → P (get_or xs i d)
each_inside P [] i d h p = absurd (omega arith)
each_inside P (x ∷ xs) zero d h p = p.0
each_inside P (x ∷ xs) (suc i) d h p = each_inside P xs i d (omega arith) p.1

pub entry_inside : (t : Tables) → Stands t → (i : ℕ) → i < length t.trail → get_or t.trail i 0 < used t
entry_inside t s i h = (each_inside _ t.trail i 0 h s.0.trail.1).0

module _ (t : Tables) (top : ℕ) where
  -- the entries from `top` up to entry i are undone
  abbrev pub undone_to : ℕ → Tables
  undone_to i = with_heap t (unbind_all t.heap (take (i - top) (drop top t.trail)))

  pub used_undone : (i : ℕ) → used (undone_to i) ≡ used t
  used_undone i = length_unbind_all t.heap (take (i - top) (drop top t.trail))

  pub undone_more : (i : ℕ) → top ≤ i → i < length t.trail → set_cell (undone_to i) (get_or t.trail i 0) (Reference (get_or t.trail i 0)) ≡ undone_to (i + 1)
  undone_more i low high =
      let inside : i - top < length (drop top t.trail) = omega (arith, length-drop top t.trail) in
      let place : top + (i - top) ≡ i = omega arith in
      let count : i + 1 - top ≡ i - top + 1 = omega arith in
      let at : get_or (drop top t.trail) (i - top) 0 ≡ get_or t.trail i 0 = get_or-drop top t.trail (i - top) 0 ∙ ap (λ n. get_or t.trail n 0) place in
      let part : take (i + 1 - top) (drop top t.trail) ≡ take (i - top) (drop top t.trail) ++ (get_or t.trail i 0 ∷ []) =
      ap (λ n. take n (drop top t.trail)) count ∙ take_more (drop top t.trail) (i - top) 0 inside
      ∙ ap (λ e. take (i - top) (drop top t.trail) ++ (e ∷ [])) at in
      sym (ap (λ es. with_heap t (unbind_all t.heap es)) part ∙ ap (with_heap t) (unbind_all_push t.heap (take (i - top) (drop top t.trail)) (get_or t.trail i 0)))
