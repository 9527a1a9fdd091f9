-- A marking that is under way stays so when one waiting cell is looked at, and is closed when no cell waits.
use Rattle.std.proofs.Common.{◌≡◌, ℕ, suc, ◌+◌, ◌<◌, Bool, true, ◌⊎◌, List, [], ◌∷◌, ◌++◌, length, sym, ap, ◌∙◌, subst, inl, inr, ⊎_elim, arith, length-append}
use Rattle.cells.specs.declared.cell.Cell.{Cell}
use Rattle.heaps.specs.Lists.{Among, here}
use Rattle.heaps.specs.Leads.{Heap, LeadsBy}
use Rattle.marking.specs.Marking.{ClosedUnder, CellsLead}
use Rattle.marking.specs.Walks.{total, Noted, Underway, From, held, led, Grown}
use Rattle.marking.proofs.Members.{among_nowhere, among_left, among_right, among_either, among_one}

module _ (h : Heap) where
  from_from : (s t : ℕ → Bool) → ((k : ℕ) → t k ≡ true → From h s k) → {k : ℕ} → From h t k → From h s k
  from_from s t below (held {k} e) = below k e
  from_from s t below (led f l) = led (from_from s t below f) l

  pub grown_none : (s : ℕ → Bool) → Grown h s s
  grown_none s = record { kept = λ k e. e; from = λ k e. held e }

  pub grown_then : {s t u : ℕ → Bool} → Grown h s t → Grown h t u → Grown h s u
  grown_then {s} {t} a b = record { kept = λ k e. b.kept k (a.kept k e); from = λ k e. from_from s t a.from (b.from k e) }

  -- from a closed set, with what was marked since
  pub underway_first : (P : ℕ → Type 0) (s : ℕ → Bool) (p : List ℕ) (t : ℕ → Bool) (q : List ℕ)
      → ClosedUnder h s → p ≡ [] → Noted P s p t q → Underway h t q
  underway_first P s p t q closed none n =
      record {
        leads = λ i j m l. ⊎_elim (λ old. inl (n.kept j (closed i j old l))) (λ new. inr new.1) (n.only i m);
        members = λ i m. ⊎_elim (λ old. absurd (among_nowhere (subst (Among i) none old))) (λ e. e) (n.waits i m);
        room = let short : length p ≡ 0 = ap length none in omega (arith, n.sum);
      }

  -- what the word of a cell leads to lies inside
  pub word_inside : CellsLead h → (i : ℕ) (w : Cell) → w ≡ h i → i < 4096 → (k : ℕ) → LeadsBy i w k → k < 4096
  word_inside inside i w is low k l = inside i k low (subst (λ v. LeadsBy i v k) is l)

  module _ (s : ℕ → Bool) (p : List ℕ) (i : ℕ) (w : Cell) (q : List ℕ) (t : ℕ → Bool) (r : List ℕ) (under : Underway h s p)
      (top : p ≡ q ++ (i ∷ [])) (is : w ≡ h i) (noted : Noted (LeadsBy i w) s q t r) where
    pub top_member : s i ≡ true
    top_member = under.members i (subst (Among i) (sym top) (among_right q here))

    long : length p ≡ length q + 1
    long = ap length top ∙ length-append q (i ∷ [])

    still : (k : ℕ) → Among k p → (k ≡ i) ⊎ Among k r
    still k m = ⊎_elim (λ old. inr (noted.stays k old)) (λ one. inl (among_one one)) (among_either q (i ∷ []) (subst (Among k) top m))

    pub underway_look : Underway h t r
    underway_look =
        record {
          leads = λ k j m l.
              ⊎_elim
              (λ old.
              ⊎_elim
              (λ found. inl (noted.kept j found))
              (λ waits. ⊎_elim (λ e. inl (noted.all j (subst (λ v. LeadsBy i v j) (sym is) (subst (λ x. LeadsBy x (h x) j) e l)))) (λ w. inr w) (still k waits))
              (under.leads k j old l))
              (λ new. inr new.1)
              (noted.only k m);
          members = λ k m.
              ⊎_elim
              (λ old. noted.kept k (under.members k (subst (Among k) (sym top) (among_left (i ∷ []) old))))
              (λ e. e)
              (noted.waits k m);
          room = omega (arith, noted.sum, under.room, long);
        }

    pub grown_look : Grown h s t
    grown_look =
        record {
          kept = noted.kept;
          from = λ k m. ⊎_elim (λ old. held old) (λ new. led (held top_member) (subst (λ v. LeadsBy i v k) is new.0)) (noted.only k m);
        }

    pub fewer : suc (length r) + total s ≡ length p + total t
    fewer = omega (arith, noted.sum, long)
