-- What words reach is the least set that holds where they lead; so it grows with the words and depends on no other cells.
use Rattle.std.proofs.Common.{◌≡◌, ℕ, true, ◌⊎◌, List, ◌++◌, sym, subst, inl, inr, ⊎_elim}
use Rattle.cells.specs.declared.cell.Cell.{Cell}
use Rattle.heaps.specs.Leads.{Heap, LeadsBy}
use Rattle.heaps.specs.Reached.{Reaches, direct, onward}
use Rattle.heaps.specs.ReachedLaws.{Holds, ReachesLeast, ReachesMore, ReachesJoined, ReachesFrame}
use Rattle.heaps.proofs.MemberLaws.{among_left, among_right, among_either}

pub reaches_holds : (h : Heap) (ws : List Cell) → Holds h ws (Reaches h ws)
reaches_holds h ws = record { starts = λ w j m l. direct m l; goes_on = λ i j r l. onward r l }

pub reaches_in : (h : Heap) (ws : List Cell) (s : ℕ → Type 0) → Holds h ws s → (k : ℕ) → Reaches h ws k → s k
reaches_in h ws s held k (direct {w = w} m l) = held.starts w k m l
reaches_in h ws s held k (onward {i = i} r l) = held.goes_on i k (reaches_in h ws s held i r) l

pub reaches_least : ReachesLeast
reaches_least h ws = (reaches_holds h ws, λ s held k r. reaches_in h ws (λ j. s j ≡ true) held k r)

pub reaches_more : ReachesMore
reaches_more h ws vs sub k r =
    reaches_in h ws (Reaches h vs) (record { starts = λ w j m l. direct (sub w m) l; goes_on = λ i j q l. onward q l }) k r

pub reaches_joined : ReachesJoined
reaches_joined h ws vs k = (split, ⊎_elim (reaches_more h ws (ws ++ vs) (λ w m. among_left vs m) k) (reaches_more h vs (ws ++ vs) (λ w m. among_right ws m) k))
  where
    split : Reaches h (ws ++ vs) k → Reaches h ws k ⊎ Reaches h vs k
    split r = reaches_in h (ws ++ vs) (λ j. Reaches h ws j ⊎ Reaches h vs j) (record {
      starts = λ w j m l. ⊎_elim (λ p. inl (direct p l)) (λ p. inr (direct p l)) (among_either ws vs m);
      goes_on = λ i j q l. ⊎_elim (λ p. inl (onward p l)) (λ p. inr (onward p l)) q;
    }) k r

pub reaches_frame : ReachesFrame
reaches_frame h g ws same k = (there k, back)
  where
    there : (j : ℕ) → Reaches h ws j → Reaches g ws j
    there j (direct m l) = direct m l
    there j (onward {i = i} r l) = onward (there i r) (subst (λ c. LeadsBy i c j) (same i r) l)

    back : Reaches g ws k → Reaches h ws k
    back r = reaches_in g ws (Reaches h ws) (record {
      starts = λ w j m l. direct m l;
      goes_on = λ i j q l. onward q (subst (λ c. LeadsBy i c j) (sym (same i q)) l);
    }) k r
