-- Placing the reached cells moves them one-to-one onto the new heap, as each choice point sees the heaps too.
use Rattle.std.proofs.Common.{◌≡◌, ℕ, ◌<◌, Bool, true, false, cond, ◌&&◌, List, map, length, get_or, take, drop, sym, refl, ap, ◌∙◌, arith}
use Rattle.std.proofs.lemmas.List.{get_or-map, length-map, drop-map}
use Rattle.std.proofs.lemmas.Bool.{and_parts}
use Rattle.cells.specs.declared.cell.Cell.TheVariants.{Reference}
use Rattle.tables.specs.Tables.{Choice, Tables, used, cell_at}
use Rattle.heaps.specs.Lists.{is_in}
use Rattle.heaps.specs.Leads.{heap_of, LeadsBy, relocate}
use Rattle.heaps.specs.Reached.{is_reached, onward}
use Rattle.heaps.specs.Levels.{seen_from}
use Rattle.heaps.specs.LevelLaws.{Stands}
use Rattle.heaps.specs.Moving.{Moves}
use Rattle.heaps.proofs.InLaws.{in_at}
use Rattle.heaps.proofs.MovedSound.{Onto}
use Rattle.heaps.proofs.ReachedUsed.{reached_used}
use Rattle.heaps.proofs.ReachedDecided.{reached_decided}
use Rattle.heaps.proofs.SeenLaws.{unbind_at}
use Rattle.collectors.specs.Placing.{kept, place_in, placed_choice, placed}
use Rattle.collectors.specs.Orders.{Orders}
use Rattle.collectors.proofs.PlaceLaws.{place_holds, place_inside, place_back, in_kept, kept_drop, in_map}

module _ (t : Tables) (st : Stands t) (order : List ℕ) (top : ℕ → ℕ) (o : Orders t order top) where
  abbrev pub f : ℕ → ℕ
  f = place_in order

  abbrev pub u : Tables
  u = placed order top t

  abbrev pub R : ℕ → Type 0
  R i = is_reached t i ≡ true

  pub in_order : (i : ℕ) → R i → is_in i order ≡ true
  in_order i r = o.members i ∙ r

  pub reached_inside : (i : ℕ) → R i → i < used t
  reached_inside i r = reached_used t st.0 i ((reached_decided t st.0 i).0 r)

  pub used_placed : used u ≡ length order
  used_placed = length-map order (λ i. relocate f (cell_at t i))

  pub apart : (i j : ℕ) → R i → R j → f i ≡ f j → i ≡ j
  apart i j r s e = sym (place_holds order i 0 (in_order i r)) ∙ ap (λ k. get_or order k 0) e ∙ place_holds order j 0 (in_order j s)

  pub reached_on : (i j : ℕ) → R i → LeadsBy i (heap_of t.heap i) j → R j
  reached_on i j r l = (reached_decided t st.0 j).1 (onward ((reached_decided t st.0 i).0 r) l)

  pub arrives : (i : ℕ) → R i → heap_of u.heap (f i) ≡ relocate f (heap_of t.heap i)
  arrives i r =
      get_or-map (λ k. relocate f (cell_at t k)) order (f i) 0 (Reference (f i)) (place_inside order i (in_order i r))
      ∙ ap (λ k. relocate f (cell_at t k)) (place_holds order i 0 (in_order i r))

  pub moves : Moves R f (heap_of t.heap) (heap_of u.heap)
  moves = record { arrives = arrives; closed = reached_on; apart = apart; neighbours = o.neighbours }

  -- the cell that is placed at j
  abbrev pub source : ℕ → ℕ
  source j = get_or order j 0

  pub source_reached : (j : ℕ) → j < length order → R (source j)
  source_reached j lt = sym (o.members (source j)) ∙ in_at order j lt

  pub source_placed : (j : ℕ) → j < length order → f (source j) ≡ j
  source_placed j lt = place_back order j 0 o.different lt

  pub onto : Onto R f (used u)
  onto = record {
    below = λ i r. let a = place_inside order i (in_order i r) in let b = used_placed in omega arith;
    every = λ j lt. let b = used_placed in let l : j < length order = omega arith in (source j, source_reached j l, source_placed j l);
  }

  -- an entry of a reached cell is undone in the new tables where it is undone in the old
  entries_placed : (n i : ℕ) → R i
      → is_in (f i) (drop (length (kept (is_reached t) (take n t.trail))) u.trail) ≡ is_in i (drop n t.trail)
  entries_placed n i r =
      ap (is_in (f i)) (drop-map f (length (kept (is_reached t) (take n t.trail))) (kept (is_reached t) t.trail) ∙ ap (map f) (kept_drop (is_reached t) n t.trail))
      ∙ in_map f (kept (is_reached t) (drop n t.trail)) i
      (λ j e q. apart j i (and_parts (is_reached t j) (is_in j (drop n t.trail)) (sym (in_kept (is_reached t) (drop n t.trail) j) ∙ e)).0 r q)
      ∙ in_kept (is_reached t) (drop n t.trail) i
      ∙ ap (λ b. b && is_in i (drop n t.trail)) r

  pub seen_placed : (c : Choice) (i : ℕ) → R i
      → heap_of (seen_from (placed_choice order top t c) u.heap u.trail) (f i) ≡ relocate f (heap_of (seen_from c t.heap t.trail) i)
  seen_placed c i r =
      unbind_at u.heap (drop (placed_choice order top t c).trail_top u.trail) (f i)
      ∙ ap (λ b. cond b (Reference (f i)) (heap_of u.heap (f i))) (entries_placed c.trail_top i r)
      ∙ ap (cond (is_in i (drop c.trail_top t.trail)) (Reference (f i))) (arrives i r)
      ∙ by (is_in i (drop c.trail_top t.trail))
      ∙ ap (relocate f) (sym (unbind_at t.heap (drop c.trail_top t.trail) i))
    where
      by : (b : Bool) → cond b (Reference (f i)) (relocate f (heap_of t.heap i)) ≡ relocate f (cond b (Reference i) (heap_of t.heap i))
      by true = refl
      by false = refl
