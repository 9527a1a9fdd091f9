-- From a closed set, following words to the end marks all that they reach and no more.
use Rattle.std.proofs.Common.{◌≡◌, ℕ, ◌≤◌, Bool, true, ◌⊎◌, List, ◌++◌, length, inl, inr, ⊎_elim}
use Rattle.cells.specs.declared.cell.Cell.{Cell}
use Rattle.heaps.specs.Leads.{Heap}
use Rattle.heaps.specs.Reached.{Reaches, direct, onward}
use Rattle.marking.specs.Marking.{ClosedUnder, MarkedAll}
use Rattle.marking.specs.Walks.{Noted, From, held, led, Grown}
use Rattle.marking.proofs.Members.{among_left, among_right, among_either}
use Rattle.marking.proofs.Words.{LedBelow, led_below, led_all}

module _ (h : Heap) where
  module _ (ws : List Cell) (s t u : ℕ → Bool) (p q : List ℕ) (r : ℕ) (few : length ws ≤ r) (closed : ClosedUnder h s)
      (noted : Noted (LedBelow ws r) s p t q) where
    reached : {k : ℕ} → From h t k → (s k ≡ true) ⊎ Reaches h ws k
    reached (held {k} e) =
        ⊎_elim (λ old. inl old) (λ new. let l = led_below ws r k new.0 in inr (direct l.1 l.2)) (noted.only k e)
    reached (led {i} {j} f l) = ⊎_elim (λ old. inl (closed i j old l)) (λ r. inr (onward r l)) (reached f)

    covered : Grown h t u → ClosedUnder h u → {k : ℕ} → Reaches h ws k → u k ≡ true
    covered g c (direct {w} {j} m l) = g.kept j (noted.all j (led_all ws r j few (w, m, l)))
    covered g c (onward {i} {j} r l) = c i j (covered g c r) l

    pub marked_all : Grown h t u → ClosedUnder h u → MarkedAll h ws s u
    marked_all g c =
        record {
          only = λ k e. reached (g.from k e);
          kept = λ k e. g.kept k (noted.kept k e);
          all = λ k r. covered g c r;
        }

  reaches_left : (ws vs : List Cell) {k : ℕ} → Reaches h ws k → Reaches h (ws ++ vs) k
  reaches_left ws vs (direct m l) = direct (among_left vs m) l
  reaches_left ws vs (onward r l) = onward (reaches_left ws vs r) l

  reaches_right : (ws vs : List Cell) {k : ℕ} → Reaches h vs k → Reaches h (ws ++ vs) k
  reaches_right ws vs (direct m l) = direct (among_right ws m) l
  reaches_right ws vs (onward r l) = onward (reaches_right ws vs r) l

  reaches_either : (ws vs : List Cell) {k : ℕ} → Reaches h (ws ++ vs) k → Reaches h ws k ⊎ Reaches h vs k
  reaches_either ws vs (direct m l) = ⊎_elim (λ a. inl (direct a l)) (λ b. inr (direct b l)) (among_either ws vs m)
  reaches_either ws vs (onward r l) = ⊎_elim (λ a. inl (onward a l)) (λ b. inr (onward b l)) (reaches_either ws vs r)

  pub marked_then : (ws vs : List Cell) (s t u : ℕ → Bool) → MarkedAll h ws s t → MarkedAll h vs t u → MarkedAll h (ws ++ vs) s u
  marked_then ws vs s t u a b =
      record {
        only = λ k e.
            ⊎_elim
            (λ old. ⊎_elim (λ older. inl older) (λ r. inr (reaches_left ws vs r)) (a.only k old))
            (λ r. inr (reaches_right ws vs r))
            (b.only k e);
        kept = λ k e. b.kept k (a.kept k e);
        all = λ k r. ⊎_elim (λ x. b.kept k (a.all k x)) (λ y. b.all k y) (reaches_either ws vs r);
      }
