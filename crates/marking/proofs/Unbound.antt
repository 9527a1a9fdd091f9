-- Making a cell unbound keeps what marking requires: cells lead to cells, and a set without that cell stays closed.
use Rattle.std.proofs.Common.{◌≡◌, ℕ, Bool, false, ◌≢◌, List, length, set, ap, ◌∙◌, subst, ⊎_elim, arith, get_or-set_other, get_or-set_same}
use Rattle.std.proofs.lemmas.List.{get_or_past, length-set}
use Rattle.std.proofs.lemmas.Bool.{cases_eq, cases_lt, both_ways}
use Rattle.cells.specs.declared.cell.Cell.{Cell}
use Rattle.cells.specs.declared.cell.Cell.TheVariants.{Reference}
use Rattle.heaps.specs.Leads.{heap_of, LeadsBy}
use Rattle.marking.specs.Marking.{ClosedUnder, CellsLead}

module _ (cells : List Cell) (e : ℕ) where
  -- in use or not, the cell now refers to itself
  here_unbound : heap_of (set cells e (Reference e)) e ≡ Reference e
  here_unbound =
      ⊎_elim
      (λ low. get_or-set_same cells e (Reference e) (Reference e) low)
      (λ high. get_or_past (set cells e (Reference e)) e (Reference e) (omega (arith, length-set cells e (Reference e))))
      (cases_lt e (length cells))

  others_same : (i : ℕ) → i ≢ e → heap_of (set cells e (Reference e)) i ≡ heap_of cells i
  others_same i ne = get_or-set_other cells e i (Reference e) (Reference i) ne

  pub cells_lead_unbound : CellsLead (heap_of cells) → CellsLead (heap_of (set cells e (Reference e)))
  cells_lead_unbound lead i j low l =
      ⊎_elim
      (λ (q : i ≡ e).
      let m : LeadsBy e (Reference e) j = subst (λ c. LeadsBy e c j) here_unbound (subst (λ n. LeadsBy n (heap_of (set cells e (Reference e)) n) j) q l) in
      omega (arith, m.0, m.1))
      (λ ne. lead i j low (subst (λ c. LeadsBy i c j) (others_same i ne) l))
      (cases_eq i e)

  pub closed_unbound : (s : ℕ → Bool) → s e ≡ false → ClosedUnder (heap_of cells) s → ClosedUnder (heap_of (set cells e (Reference e))) s
  closed_unbound s out closed i j m l =
      ⊎_elim
      (λ (q : i ≡ e). absurd (both_ways (s i) (ap s q ∙ out) m))
      (λ ne. closed i j m (subst (λ c. LeadsBy i c j) (others_same i ne) l))
      (cases_eq i e)
