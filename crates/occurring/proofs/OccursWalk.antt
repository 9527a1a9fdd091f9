-- The walk of the occurs check: from the cells that the word leads to, each listed cell in turn, until the variable is met or none is left.
use Rattle.std.proofs.Common.{◌≡◌, ℕ, suc, ◌+◌, ◌<◌, ◌≤◌, true, false, List, [], ◌∷◌, length, get_or, sym, refl, ap, ◌∙◌, subst, ⊎_elim, arith}
use Rattle.std.proofs.lemmas.Bool.{cases_lt, cases_Bool, both_ways}
use Rattle.cells.specs.declared.cell.Cell.{Cell}
use Rattle.tables.specs.Tables.{Tables, used, cell_at}
use Rattle.terms.specs.Terms.{occurs}
use Rattle.heaps.specs.Lists.{is_in, here}
use Rattle.heaps.specs.Leads.{Heap, heap_of, first, many, LeadsBy, refers_to, unbound}
use Rattle.heaps.specs.Spelling.{spell}
use Rattle.heaps.specs.Reached.{Reaches, direct, onward}
use Rattle.heaps.specs.LevelLaws.{Stands, Keeps}
use Rattle.heaps.proofs.WordKinds.{false_of}
use Rattle.heaps.proofs.ReachedUsed.{words_reach_used, rules_inside}
use Rattle.occurring.specs.Visits.{visit_all}
use Rattle.heaps.proofs.InLaws.{in_at, place_of}
use Rattle.occurring.proofs.VisitLaws.{all_keeps, all_here, all_only, all_longer, all_places}
use Rattle.occurring.proofs.OccursLaws.{in_spelled, reached_occurs, occurs_reached}

-- The listed cells are reached, what the word leads to is listed, and so is what the first cells of the list lead to.
-- The variable x is none of those first cells.
pub record Walked (h : Heap) (w : Cell) (x : ℕ) (vs : List ℕ) (place : ℕ) : Type 0 where
  pub starts : (j : ℕ) → LeadsBy 0 w j → is_in j vs ≡ true
  pub goes_on : (p j : ℕ) → p < place → LeadsBy (get_or vs p 0) (h (get_or vs p 0)) j → is_in j vs ≡ true
  pub reached : (k : ℕ) → is_in k vs ≡ true → Reaches h (w ∷ []) k
  pub others : (p : ℕ) → p < place → get_or vs p 0 ≡ x → ⊥
  pub inside : place ≤ length vs

module _ (h : Heap) (w : Cell) (x : ℕ) where
  pub walked_first : (us vs : List ℕ) → us ≡ [] → vs ≡ visit_all us (first 0 w) (many w) → Walked h w x vs 0
  walked_first us vs none is =
      subst (λ ws. Walked h w x ws 0) (sym (is ∙ ap (λ ws. visit_all ws (first 0 w) (many w)) none))
      (record {
        starts = λ j l. all_here [] (first 0 w) (many w) j l.0 l.1;
        goes_on = λ p j low. absurd (omega arith);
        reached = λ k e. ⊎_elim (λ old. absurd (both_ways false refl old)) (λ new. direct here new) (all_only [] (first 0 w) (many w) k e);
        others = λ p low. absurd (omega arith);
        inside = omega arith;
      })

  pub walked_more : (vs us : List ℕ) (place i : ℕ) (c : Cell) → Walked h w x vs place → place < length vs → i ≡ get_or vs place 0 → c ≡ h i → (i ≡ x → ⊥)
      → us ≡ visit_all vs (first i c) (many c) → Walked h w x us (place + 1)
  walked_more vs us place i c walked lt at holds other is = subst (λ ws. Walked h w x ws (place + 1)) (sym is) now
    where
      vs' : List ℕ
      vs' = visit_all vs (first i c) (many c)

      kept : (p : ℕ) → p < length vs → get_or vs' p 0 ≡ get_or vs p 0
      kept = all_places vs (first i c) (many c)

      -- a place below place + 1 is the new one or an older one
      each : (P : ℕ → Type 0) → P i → ((p : ℕ) → p < place → P (get_or vs p 0)) → (p : ℕ) → p < place + 1 → P (get_or vs' p 0)
      each P new old p low =
          ⊎_elim
          (λ (less : p < place). subst P (sym (kept p (omega arith))) (old p less))
          (λ (more : place ≤ p). let e : p ≡ place = omega arith in subst P (at ∙ sym (kept place lt) ∙ ap (λ q. get_or vs' q 0) (sym e)) new)
          (cases_lt p place)

      leads : (j : ℕ) → LeadsBy i (h i) j → is_in j vs' ≡ true
      leads j l = let m = subst (λ (d : Cell). LeadsBy i d j) (sym holds) l in all_here vs (first i c) (many c) j m.0 m.1

      now : Walked h w x vs' (place + 1)
      now = record {
        starts = λ j l. all_keeps vs (first i c) (many c) j (walked.starts j l);
        goes_on = λ p j low. each (λ k. LeadsBy k (h k) j → is_in j vs' ≡ true) (leads j) (λ q less l. all_keeps vs (first i c) (many c) j (walked.goes_on q j less l)) p low;
        reached = λ k e.
            ⊎_elim (λ old. walked.reached k old)
            (λ new. onward (walked.reached i (subst (λ n. is_in n vs ≡ true) (sym at) (in_at vs place lt))) (subst (λ (d : Cell). LeadsBy i d k) holds new))
            (all_only vs (first i c) (many c) k e);
        others = each (λ k. k ≡ x → ⊥) other walked.others;
        inside = let l = all_longer vs (first i c) (many c) in let less = strictly in omega arith;
      }
        where
          strictly : place < length vs
          strictly = lt

module _ (t : Tables) (stands : Stands t) (w : Cell) (keeps : Keeps t w) (x : ℕ) (vs : List ℕ) (place : ℕ)
    (walked : Walked (heap_of t.heap) w x vs place) where
  -- the cells of the list are in use
  pub listed_used : (k : ℕ) → is_in k vs ≡ true → k < used t
  listed_used k e = words_reach_used t stands.0 (w ∷ []) (keeps.0, tt) k (walked.reached k e)

  pub cell_used : (i : ℕ) → i ≡ get_or vs place 0 → place < length vs → i < used t
  cell_used i at lt = listed_used i (subst (λ n. is_in n vs ≡ true) (sym at) (in_at vs place lt))

  pub cell_inside : (i : ℕ) (c : Cell) → i ≡ get_or vs place 0 → c ≡ cell_at t i → place < length vs → (k : ℕ) → LeadsBy i c k → k < 4096
  cell_inside i c at holds lt k l =
      let low = rules_inside t stands.0 i k (cell_used i at lt) (subst (λ (d : Cell). LeadsBy i d k) holds l) in
      let room = stands.1.cells in
      omega arith

  -- the variable is met: it occurs if it is unbound
  pub walked_found : (i : ℕ) (c : Cell) → i ≡ get_or vs place 0 → c ≡ cell_at t i → place < length vs → i ≡ x → refers_to x c ≡ occurs x (spell t.heap w)
  walked_found i c at holds lt met =
      let r = subst (Reaches (heap_of t.heap) (w ∷ [])) met (walked.reached i (subst (λ n. is_in n vs ≡ true) (sym at) (in_at vs place lt))) in
      let is : refers_to x c ≡ unbound (heap_of t.heap) x = ap (refers_to x) (holds ∙ ap (heap_of t.heap) met) in
      ⊎_elim
      (λ (free : unbound (heap_of t.heap) x ≡ true). is ∙ free ∙ sym (reached_occurs t stands.0 x w keeps.0 r free))
      (λ (bound : unbound (heap_of t.heap) x ≡ false).
      is ∙ bound ∙ sym (false_of (occurs x (spell t.heap w)) (λ e. both_ways (unbound (heap_of t.heap) x) bound (occurs_reached t stands.0 x w keeps.0 e).1)))
      (cases_Bool (unbound (heap_of t.heap) x))

  -- no cell is left: the variable does not occur
  pub walked_all : length vs ≤ place → false ≡ occurs x (spell t.heap w)
  walked_all past =
      sym
      (false_of (occurs x (spell t.heap w))
      (λ e.
      let found =
      in_spelled (heap_of t.heap) x (λ k. is_in k vs ≡ true)
      (λ i j m l. let p = place_of vs i m in let lt = p.1 in walked.goes_on p.0 j (omega arith) (subst (λ n. LeadsBy n (heap_of t.heap n) j) (sym p.2) l))
      (suc (used t)) 0 w walked.starts e in
      let p = place_of vs x found.0 in
      let lt = p.1 in
      walked.others p.0 (omega arith) p.2))
