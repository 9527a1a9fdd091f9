-- Placing the reached cells in an order shows what a collector must: at each level the registers spell the same terms, with
-- variables renamed as their cells were placed.
use Rattle.std.proofs.Common.{◌≡◌, ℕ, zero, suc, ◌+◌, ◌<◌, ◌≤◌, Bool, true, List, [], ◌∷◌, map, length, drop, sym, refl, ap, ◌∙◌, subst, ap₂, subst₂, arith}
use Rattle.std.proofs.lemmas.List.{length-map, drop-map}
use Rattle.cells.specs.declared.cell.Cell.{Cell}
use Rattle.cells.specs.declared.cell.Cell.TheVariants.{Reference, Pointer, Functor, Atom, Integer}
use Rattle.tables.specs.Tables.{Choice, Tables, used, with_choices}
use Rattle.terms.specs.Terms.{cons, row}
use Rattle.terms.specs.Renamings.{rename, Alike}
use Rattle.terms.proofs.AlikeLaws.{rename_rename}
use Rattle.heaps.specs.Lists.{Among, here, further}
use Rattle.heaps.specs.Leads.{heap_of, LeadsBy, relocate}
use Rattle.heaps.specs.Spelling.{arity_of, spell, spelled}
use Rattle.heaps.specs.Levels.{seen_from, back_to, last_of, undo}
use Rattle.heaps.specs.Reached.{Reached, is_reached, saved_words, direct, onward}
use Rattle.heaps.specs.Rules.{TopsFall, Rules}
use Rattle.heaps.specs.LevelLaws.{Stands}
use Rattle.heaps.specs.Moving.{Moves}
use Rattle.heaps.proofs.MemberLaws.{each_among, among_left}
use Rattle.heaps.proofs.WordKinds.{argument_leads}
use Rattle.heaps.proofs.UnbindLaws.{heap_of_take}
use Rattle.heaps.proofs.CutLaws.{length_back, last_drop}
use Rattle.heaps.proofs.UndoRules.{stands_undo}
use Rattle.heaps.proofs.MoveLaws.{spell_moved}
use Rattle.heaps.proofs.ReachedUsed.{reached_used}
use Rattle.heaps.proofs.ReachedDecided.{reached_decided}
use Rattle.heaps.proofs.UndoReached.{undo_reached}
use Rattle.collectors.specs.Placing.{place_in, placed_choice, placed}
use Rattle.collectors.specs.Orders.{Orders, PlacedShows}
use Rattle.collectors.proofs.PlaceLaws.{place_holds}
use Rattle.collectors.proofs.PlacedMoves.{in_order, apart, moves, source, seen_placed}
use Rattle.collectors.proofs.PlacedRules.{tops_inside, register_leads, seen_near, rules_placed, fits_placed, used_reached}

relocate_same : (e : ℕ → ℕ) (i : ℕ) (w : Cell) → ((j : ℕ) → LeadsBy i w j → e j ≡ j) → relocate e w ≡ w
relocate_same e i (Reference n) same = ap Reference (same n (omega arith, omega arith))
relocate_same e i (Pointer n) same = ap Pointer (same n (omega arith, omega arith))
relocate_same e i (Functor name arity) same = refl
relocate_same e i (Atom a) same = refl
relocate_same e i (Integer z) same = refl

-- Tables T whose reached cells are moved to tables U spell the same terms there, up to the renaming.
module _ (T U : Tables) (s : ℕ → Bool) (g back : ℕ → ℕ) (rT : Rules T) (rU : Rules U) (mv : Moves (λ i. s i ≡ true) g (heap_of T.heap) (heap_of U.heap))
    (inv : (i : ℕ) → s i ≡ true → back (g i) ≡ i) (regs : U.registers ≡ map (relocate g) T.registers)
    (lead : (w : Cell) → Among w T.registers → (j : ℕ) → LeadsBy 0 w j → s j ≡ true) where
  abbrev e : ℕ → ℕ
  e i = back (g i)

  near : (i m : ℕ) → s i ≡ true → m ≤ arity_of (heap_of T.heap i) → e (i + m) ≡ e i + m
  near i zero r le = let z : i + 0 ≡ i = omega arith in ap e z ∙ omega arith
  near i (suc m) r le =
      let q = inv (i + suc m) (mv.closed i (i + suc m) r (argument_leads i (i + suc m) (heap_of T.heap i) (omega arith) (omega arith))) in
      let p = inv i r in
      omega arith

  -- there and back again moves nothing
  itself : Moves (λ i. s i ≡ true) e (heap_of T.heap) (heap_of T.heap)
  itself = record {
    arrives = λ i r. ap (heap_of T.heap) (inv i r) ∙ sym (relocate_same e i (heap_of T.heap i) (λ j l. inv j (mv.closed i j r l)));
    closed = mv.closed;
    apart = λ i j r q p. sym (inv i r) ∙ p ∙ inv j q;
    neighbours = near;
  }

  there_words : (ws : List Cell) → ((w : Cell) → Among w ws → (j : ℕ) → LeadsBy 0 w j → s j ≡ true) → rename g (row (spell T.heap) ws) ≡ row (spell U.heap) (map (relocate g) ws)
  there_words [] l = refl
  there_words (w ∷ ws) l = ap₂ cons (sym (spell_moved T U s g rT rU mv w (l w here))) (there_words ws (λ x m. l x (further m)))

  again_words : (ws : List Cell) → ((w : Cell) → Among w ws → (j : ℕ) → LeadsBy 0 w j → s j ≡ true) → rename e (row (spell T.heap) ws) ≡ row (spell T.heap) ws
  again_words [] l = refl
  again_words (w ∷ ws) l =
      ap₂ cons
      (sym (spell_moved T T s e rT rT itself w (l w here)) ∙ ap (spell T.heap) (relocate_same e 0 w (λ j q. inv j (l w here j q))))
      (again_words ws (λ x m. l x (further m)))

  pub level_alike : Alike (spelled T) (spelled U)
  level_alike =
      let there = there_words T.registers lead ∙ ap (row (spell U.heap)) (sym regs) in
      record {
        to = g;
        from = back;
        there = there;
        back = ap (rename back) (sym there) ∙ rename_rename g back (spelled T) ∙ again_words T.registers lead;
      }

-- the choice point after j newer ones
pub level_at : (j : ℕ) (cs : List Choice) → j < length cs → (c : Choice) × (ds : List Choice) × (drop j cs ≡ c ∷ ds) × Among c cs
level_at j [] lt = absurd (omega arith)
level_at zero (c ∷ cs) lt = (c, cs, refl, here)
level_at (suc j) (c ∷ cs) lt = let r = level_at j cs (omega arith) in (r.0, r.1, r.2, further r.3)

pub undo_level : (t : Tables) (j : ℕ) (c : Choice) (ds : List Choice) → TopsFall (used t) (length t.trail) t.choices → j < length t.choices → drop j t.choices ≡ c ∷ ds
    → undo t (suc j) ≡ back_to c ds t
undo_level t j c ds falls lt e = sym (last_drop j t t.choices refl falls lt) ∙ ap (λ (fs : List Choice). last_of fs (with_choices t fs)) e

module _ (t : Tables) (st : Stands t) (order : List ℕ) (top : ℕ → ℕ) (o : Orders t order top) where
  abbrev g : ℕ → ℕ
  g = place_in order

  abbrev v : Tables
  v = placed order top t

  invert : (i : ℕ) → is_reached t i ≡ true → source t st order top o (g i) ≡ i
  invert i r = place_holds order i 0 (in_order t st order top o i r)

  pub present_alike : Alike (spelled t) (spelled v)
  present_alike = level_alike t v (is_reached t) g (source t st order top o) st.0 (rules_placed t st order top o) (moves t st order top o) invert refl (register_leads t st order top o)

  module _ (j : ℕ) (lt : j < length t.choices) (c : Choice) (ds : List Choice) (at : drop j t.choices ≡ c ∷ ds) (among : Among c t.choices) where
    abbrev T : Tables
    T = back_to c ds t

    abbrev c' : Choice
    c' = placed_choice order top t c

    abbrev U : Tables
    U = back_to c' (map (placed_choice order top t) ds) v

    is_t : undo t (suc j) ≡ T
    is_t = undo_level t j c ds st.0.tops lt at

    is_u : undo v (suc j) ≡ U
    is_u =
        undo_level v j c' (map (placed_choice order top t) ds) (rules_placed t st order top o).tops (let a = length-map t.choices (placed_choice order top t) in omega arith)
        (drop-map (placed_choice order top t) j t.choices ∙ ap (map (placed_choice order top t)) at)

    rules_t : Rules T
    rules_t = subst Rules is_t (stands_undo t (suc j) st).0

    rules_u : Rules U
    rules_u = subst Rules is_u (stands_undo v (suc j) (rules_placed t st order top o, fits_placed t st order top o)).0

    low : c.heap_top ≤ used t
    low = each_among (λ d. d.heap_top ≤ used t) (tops_inside (used t) (length t.trail) t.choices st.0.tops) among

    -- what is reached at this level is reached, and stands below the heap top
    was_reached : (i : ℕ) → is_reached T i ≡ true → is_reached t i ≡ true
    was_reached i r = (reached_decided t st.0 i).1 (undo_reached t (suc j) i (subst (λ (x : Tables). Reached x i) (sym is_t) ((reached_decided T rules_t i).0 r)))

    under : (i : ℕ) → is_reached T i ≡ true → i < c.heap_top
    under i r = let a = reached_used T rules_t i ((reached_decided T rules_t i).0 r) in let b = length_back t c ds low in omega arith

    arrives_level : (i : ℕ) → is_reached T i ≡ true → heap_of U.heap (g i) ≡ relocate g (heap_of T.heap i)
    arrives_level i r =
        heap_of_take (top c.heap_top) (seen_from c' v.heap v.trail) (g i) (o.below i c.heap_top (was_reached i r) (under i r) low)
        ∙ seen_placed t st order top o c i (was_reached i r)
        ∙ ap (relocate g) (sym (heap_of_take c.heap_top (seen_from c t.heap t.trail) i (under i r)))

    moves_level : Moves (λ i. is_reached T i ≡ true) g (heap_of T.heap) (heap_of U.heap)
    moves_level = record {
      arrives = arrives_level;
      closed = λ i k r l. (reached_decided T rules_t k).1 (onward ((reached_decided T rules_t i).0 r) l);
      apart = λ i k r q p. apart t st order top o i k (was_reached i r) (was_reached k q) p;
      neighbours = λ i m r le. seen_near t st order top o c i (was_reached i r) m
          (let a = ap arity_of (heap_of_take c.heap_top (seen_from c t.heap t.trail) i (under i r)) in omega arith);
    }

    older_alike : Alike (spelled (undo t (suc j))) (spelled (undo v (suc j)))
    older_alike = subst₂ (λ (x y : Tables). Alike (spelled x) (spelled y)) (sym is_t) (sym is_u)
        (level_alike T U (is_reached T) g (source t st order top o) rules_t rules_u moves_level (λ i r. invert i (was_reached i r)) refl
        (λ w m k l. (reached_decided T rules_t k).1 (direct (among_left (saved_words ds) m) l)))

  levels_alike : (k : ℕ) → k ≤ length t.choices → Alike (spelled (undo t k)) (spelled (undo v k))
  levels_alike zero le = present_alike
  levels_alike (suc j) le = let a = level_at j t.choices (omega arith) in older_alike j (omega arith) a.0 a.1 a.2 a.3

pub placed_shows : PlacedShows
placed_shows t order top st o =
    record {
      rules = rules_placed t st order top o;
      fits = fits_placed t st order top o;
      points = length-map t.choices (placed_choice order top t);
      counted = used_reached t st order top o;
      spells = levels_alike t st order top o;
    }
