-- What the first words of a list lead to, one word at a time.
use Rattle.std.proofs.Common.{◌≡◌, ℕ, zero, suc, ◌+◌, ◌<◌, ◌≤◌, Bool, ◌⊎◌, List, [], ◌∷◌, length, get_or, sym, refl, ap, ◌∙◌, subst, inl, inr, ⊎_elim, arith}
use Rattle.std.proofs.lemmas.Bool.{cases_lt}
use Rattle.cells.specs.declared.cell.Cell.{Cell}
use Rattle.cells.specs.declared.cell.Cell.TheVariants.{Atom}
use Rattle.heaps.specs.Lists.{Among, here, further}
use Rattle.heaps.specs.Leads.{LeadsBy}
use Rattle.marking.specs.Marking.{LedTo, WordsLead}
use Rattle.marking.specs.Walks.{Noted}
use Rattle.marking.proofs.Notes.{noted_then}

-- one of the first r words leads to cell k
abbrev pub LedBelow : List Cell → ℕ → ℕ → Type 0
LedBelow ws r k = (i : ℕ) × (i < r) × LeadsBy 0 (get_or ws i (Atom 0)) k

-- a place past the end holds an atom, which leads nowhere
led_at : (ws : List Cell) (r k : ℕ) → LeadsBy 0 (get_or ws r (Atom 0)) k → LedTo ws k
led_at [] r k l = absurd (omega (arith, l.1))
led_at (w ∷ ws) zero k l = (w, here, l)
led_at (w ∷ ws) (suc r) k l = let m = led_at ws r k l in (m.0, further m.1, m.2)

among_at : (ws : List Cell) (w : Cell) → Among w ws → (i : ℕ) × (i < length ws) × (get_or ws i (Atom 0) ≡ w)
among_at [] w m = elim m [ ]
among_at (v ∷ ws) w here = (0, omega arith, refl)
among_at (v ∷ ws) w (further m) = let p = among_at ws w m in (suc p.0, omega (arith, p.1), p.2)

pub led_below : (ws : List Cell) (r k : ℕ) → LedBelow ws r k → LedTo ws k
led_below ws r k l = led_at ws l.0 k l.2

pub led_all : (ws : List Cell) (r k : ℕ) → length ws ≤ r → LedTo ws k → LedBelow ws r k
led_all ws r k h l =
    let p = among_at ws l.0 l.1 in
    (p.0, omega (arith, p.1), subst (λ w. LeadsBy 0 w k) (sym p.2) l.2)

module _ (ws : List Cell) (r k : ℕ) (w : Cell) (is : w ≡ get_or ws r (Atom 0)) where
  led_now : LeadsBy 0 w k → LedBelow ws (r + 1) k
  led_now l = (r, omega arith, subst (λ v. LeadsBy 0 v k) is l)

  led_before : LedBelow ws r k → LedBelow ws (r + 1) k
  led_before l = (l.0, omega (arith, l.1), l.2)

  led_either : LedBelow ws (r + 1) k → LedBelow ws r k ⊎ LeadsBy 0 w k
  led_either l =
      ⊎_elim
      (λ (low : l.0 < r). inl (l.0, low, l.2))
      (λ (high : r ≤ l.0).
      let e : l.0 ≡ r = omega (arith, l.1) in
      inr (subst (λ v. LeadsBy 0 v k) (ap (λ i. get_or ws i (Atom 0)) e ∙ sym is) l.2))
      (cases_lt l.0 r)

  pub led_inside : WordsLead ws → LeadsBy 0 w k → k < 4096
  led_inside inside l = inside k (led_at ws r k (subst (λ v. LeadsBy 0 v k) is l))

module _ (ws : List Cell) (r : ℕ) (w : Cell) (is : w ≡ get_or ws r (Atom 0)) {s : ℕ → Bool} {p : List ℕ} {t : ℕ → Bool} {q : List ℕ} {u : ℕ → Bool} {v : List ℕ} where
  -- one word more
  pub noted_word : Noted (LedBelow ws r) s p t q → Noted (LeadsBy 0 w) t q u v → Noted (LedBelow ws (r + 1)) s p u v
  noted_word a b =
      noted_then (LedBelow ws (r + 1)) a b (λ k. led_before ws r k w is) (λ k. led_now ws r k w is) (λ k. led_either ws r k w is)
