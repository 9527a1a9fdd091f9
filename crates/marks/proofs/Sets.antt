-- One more member: the set that has the cell n, and every other number as s has it, is s with the cell n.

use Rattle.std.proofs.Common.{◌≡◌, ℕ, ◌<◌, Bool, true, ◌||◌, eqb, ◌≢◌, sym, ap, ◌∙◌, ⊎_elim}
use mathlib.Core.Path.{fun_ext}
use Rattle.std.proofs.lemmas.Bool.{cases_eq, cond-true, eq-eqb, lt-ltb, ne_eqb}
use Rattle.marks.specs.Sets.{is_cell, with_cell}

module _ (s : ℕ → Bool) (n : ℕ) (cell : n < 4096) where
  -- the condition of `with_cell` is met at a cell
  pub with_below : with_cell s n ≡ (λ k. eqb k n || s k)
  with_below = cond-true (is_cell n) (λ k. eqb k n || s k) s (lt-ltb n 4096 cell)

  pub with_cell_lem : (t : ℕ → Bool) → t n ≡ true → ((k : ℕ) → k ≢ n → t k ≡ s k) → t ≡ with_cell s n
  with_cell_lem t here others =
      fun_ext
      (λ k.
      ⊎_elim
      (λ e. ap t e ∙ here ∙ ap (λ b. b || s k) (sym (eq-eqb k n e)))
      (λ ne. others k ne ∙ ap (λ b. b || s k) (sym (ne_eqb k n ne)))
      (cases_eq k n))
      ∙ sym with_below
