-- Where no level loses a binding that it sees, taking trail entries off is a layer: the heaps agree on all that a level reaches.
use Rattle.std.proofs.Common.{◌≡◌, ℕ, zero, suc, ◌<◌, ◌≤◌, Bool, true, false, cond, not, ◌&&◌, eqb, ◌⊎◌, List, [], ◌∷◌, map, length, take, drop, sym, refl, ap, ◌∙◌, subst, ap₂, subst₂, inl, inr, ⊎_elim, arith}
use Rattle.std.proofs.lemmas.List.{length-map, drop-map}
use Rattle.std.proofs.lemmas.Bool.{both_ways, cases_lt, and_parts, or_left, or_right, or_cases}
use Rattle.cells.specs.declared.cell.Cell.{Cell}
use Rattle.cells.specs.declared.cell.Cell.TheVariants.{Reference}
use Rattle.tables.specs.Tables.{Choice, Tables, used}
use Rattle.terms.specs.Terms.{cons, row}
use Rattle.terms.specs.Renamings.{Alike}
use Rattle.terms.proofs.AlikeLaws.{alike_refl}
use Rattle.heaps.specs.Lists.{Among, here, further, is_in}
use Rattle.heaps.specs.Leads.{heap_of}
use Rattle.heaps.specs.Spelling.{spell, spelled}
use Rattle.heaps.specs.Levels.{seen_from, back_to, undo}
use Rattle.heaps.specs.Reached.{Reaches}
use Rattle.heaps.specs.ReachedLaws.{SomeUnbound}
use Rattle.heaps.specs.Rules.{Rules}
use Rattle.heaps.specs.LevelLaws.{Stands}
use Rattle.heaps.proofs.MemberLaws.{each_among}
use Rattle.heaps.proofs.SeenLaws.{unbind_at}
use Rattle.heaps.proofs.UnbindLaws.{heap_of_take, heap_of_past}
use Rattle.heaps.proofs.FrameLaws.{spell_frame}
use Rattle.heaps.proofs.CutLaws.{length_back}
use Rattle.heaps.proofs.UndoRules.{stands_undo}
use Rattle.heaps.proofs.UndoReached.{unbound_reaches}
use Rattle.heaps.proofs.ReachesLaws.{reaches_more}
use Rattle.collectors.specs.LayerLaws.{Layered}
use Rattle.collectors.specs.Loosening.{loose_choice, Loosens, Unseen}
use Rattle.collectors.proofs.PlacedLevels.{level_at, undo_level}
use Rattle.collectors.proofs.PlacedRules.{tops_inside}
use Rattle.collectors.proofs.LooseRules.{in_dropped, off_cell, on_cell, stays_on, seen_loose, rules_loose, fits_loose}

-- a member is among the first n, or among the others
pub in_either : (n i : ℕ) (es : List ℕ) → is_in i es ≡ true → (is_in i (take n es) ≡ true) ⊎ (is_in i (drop n es) ≡ true)
in_either zero i es e = inr e
in_either (suc n) i [] e = absurd (both_ways false refl e)
in_either (suc n) i (x ∷ es) e =
    ⊎_elim (λ p. inl (or_left (eqb x i) (is_in i (take n es)) p))
    (λ p. ⊎_elim (λ q. inl (or_right (eqb x i) (is_in i (take n es)) q)) (λ q. inr q) (in_either n i es p))
    (or_cases (eqb x i) (is_in i es) e)

single : (w : Cell) (ws : List Cell) → Among w ws → (x : Cell) → Among x (w ∷ []) → Among x ws
single w ws m x here = m
single w ws m x (further n) = elim n [ ]

-- Tables that agree on what the registers reach spell the same.
frame_alike : (T U : Tables) → Rules T → Rules U → U.registers ≡ T.registers → ((i : ℕ) → Reaches (heap_of T.heap) T.registers i → heap_of T.heap i ≡ heap_of U.heap i) → Alike (spelled T) (spelled U)
frame_alike T U rT rU regs agree =
    subst (Alike (spelled T)) (words T.registers (λ w m. m) ∙ ap (row (spell U.heap)) (sym regs)) (alike_refl (spelled T))
  where
    words : (ws : List Cell) → ((w : Cell) → Among w ws → Among w T.registers) → row (spell T.heap) ws ≡ row (spell U.heap) ws
    words [] sub = refl
    words (w ∷ ws) sub =
        ap₂ cons (spell_frame T U rT rU w (λ i r. agree i (reaches_more (heap_of T.heap) (w ∷ []) T.registers (single w T.registers (sub w here)) i r))) (words ws (λ x m. sub x (further m)))

module _ (stays : ℕ → Bool) (t : Tables) (st : Stands t) (u : Tables) (l : Loosens stays t u) (unseen : Unseen stays t) where
  abbrev off : ℕ → Bool
  off i = is_in i t.trail && not (stays i)

  not_off : (i : ℕ) → (off i ≡ true → ⊥) → off i ≡ false
  not_off i ne = by (off i) refl
    where
      by : (b : Bool) → off i ≡ b → off i ≡ false
      by true e = absurd (ne e)
      by false e = e

  -- an entry that stays and does not stay
  clash : (i : ℕ) → off i ≡ true → stays i ≡ true → ⊥
  clash i e s = both_ways (off i) (stays_on stays t st u l i s) e

  present : Alike (spelled t) (spelled u)
  present = frame_alike t u st.0 (rules_loose stays t st u l) l.registers
      (λ i r. sym (on_cell stays t st u l i (not_off i (λ e. clash i e (unseen.present i r (and_parts (is_in i t.trail) (not (stays i)) e).0)))))

  module _ (j : ℕ) (lt : j < length t.choices) (c : Choice) (ds : List Choice) (at : drop j t.choices ≡ c ∷ ds) (among : Among c t.choices) where
    abbrev T : Tables
    T = back_to c ds t

    abbrev U : Tables
    U = back_to (loose_choice stays t c) (map (loose_choice stays t) ds) u

    is_t : undo t (suc j) ≡ T
    is_t = undo_level t j c ds st.0.tops lt at

    is_u : undo u (suc j) ≡ U
    is_u =
        undo_level u j (loose_choice stays t c) (map (loose_choice stays t) ds) (rules_loose stays t st u l).tops
        (let x = length-map t.choices (loose_choice stays t) in let y = ap length l.choices in omega arith)
        (ap (drop j) l.choices ∙ drop-map (loose_choice stays t) j t.choices ∙ ap (map (loose_choice stays t)) at)

    top : c.heap_top ≤ used t
    top = each_among (λ d. d.heap_top ≤ used t) (tops_inside (used t) (length t.trail) t.choices st.0.tops) among

    cut : SomeUnbound (heap_of (seen_from c t.heap t.trail)) (heap_of T.heap)
    cut i = ⊎_elim (λ (q : i < c.heap_top). inr (heap_of_take c.heap_top (seen_from c t.heap t.trail) i q))
        (λ (q : c.heap_top ≤ i). let x = length_back t c ds top in inl (heap_of_past T.heap i (omega arith))) (cases_lt i c.heap_top)

    agree : (i : ℕ) → Reaches (heap_of T.heap) c.saved i → heap_of T.heap i ≡ heap_of U.heap i
    agree i r = ⊎_elim inside outside (cases_lt i c.heap_top)
      where
        outside : c.heap_top ≤ i → heap_of T.heap i ≡ heap_of U.heap i
        outside le =
            let x = length_back t c ds top in
            let y = length_back u (loose_choice stays t c) (map (loose_choice stays t) ds) (let z = l.cells in let w = top in omega arith) in
            heap_of_past T.heap i (omega arith) ∙ sym (heap_of_past U.heap i (omega arith))

        seen : is_in i (take c.trail_top t.trail) ≡ true → stays i ≡ true
        seen = each_among (λ d. (k : ℕ) → Reaches (heap_of (seen_from d t.heap t.trail)) d.saved k → is_in k (take d.trail_top t.trail) ≡ true → stays k ≡ true) unseen.older among i
            (unbound_reaches (heap_of (seen_from c t.heap t.trail)) (heap_of T.heap) cut c.saved c.saved (λ w m. m) i r)

        inside : i < c.heap_top → heap_of T.heap i ≡ heap_of U.heap i
        inside q =
            heap_of_take c.heap_top (seen_from c t.heap t.trail) i q ∙ unbind_at t.heap (drop c.trail_top t.trail) i
            ∙ by (stays i) refl (is_in i (drop c.trail_top t.trail)) refl
            ∙ sym (heap_of_take c.heap_top (seen_from (loose_choice stays t c) u.heap u.trail) i q ∙ seen_loose stays t st u l c i)
          where
            by : (a : Bool) → stays i ≡ a → (b : Bool) → is_in i (drop c.trail_top t.trail) ≡ b
                → cond (is_in i (drop c.trail_top t.trail)) (Reference i) (heap_of t.heap i) ≡ cond (stays i && is_in i (drop c.trail_top t.trail)) (Reference i) (heap_of u.heap i)
            by a s b d =
                ap (λ x. cond x (Reference i) (heap_of t.heap i)) d
                ∙ cases a s b d
                ∙ sym (ap₂ (λ x y. cond (x && y) (Reference i) (heap_of u.heap i)) s d)
              where
                cases : (a : Bool) → stays i ≡ a → (b : Bool) → is_in i (drop c.trail_top t.trail) ≡ b → cond b (Reference i) (heap_of t.heap i) ≡ cond (a && b) (Reference i) (heap_of u.heap i)
                cases true s true d = refl
                cases true s false d = sym (on_cell stays t st u l i (stays_on stays t st u l i s))
                cases false s true d = sym (off_cell stays t st u l i (ap₂ (λ x y. x && not y) (in_dropped c.trail_top i t.trail d) s))
                cases false s false d = sym (on_cell stays t st u l i (not_off i (λ e.
                    ⊎_elim (λ p. clash i e (seen p)) (λ p. both_ways (is_in i (drop c.trail_top t.trail)) d p)
                    (in_either c.trail_top i t.trail (and_parts (is_in i t.trail) (not (stays i)) e).0))))

    older : Alike (spelled (undo t (suc j))) (spelled (undo u (suc j)))
    older = subst₂ (λ (x y : Tables). Alike (spelled x) (spelled y)) (sym is_t) (sym is_u)
        (frame_alike T U (subst Rules is_t (stands_undo t (suc j) st).0) (subst Rules is_u (stands_undo u (suc j) (rules_loose stays t st u l, fits_loose stays t st u l)).0) refl agree)

  levels : (k : ℕ) → k ≤ length t.choices → Alike (spelled (undo t k)) (spelled (undo u k))
  levels zero le = present
  levels (suc j) le = let x = level_at j t.choices (omega arith) in older j (omega arith) x.0 x.1 x.2 x.3

  pub loose_layered : Layered t u
  loose_layered = record {
    stands = (rules_loose stays t st u l, fits_loose stays t st u l);
    points = ap length l.choices ∙ length-map t.choices (loose_choice stays t);
    spells = levels;
  }
