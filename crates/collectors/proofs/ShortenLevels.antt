-- Shortening changes nothing of what is spelled at any level: a bound cell that is not on the trail is bound at every level that
-- has it, so the old spelling reads the new heap.
use Rattle.std.proofs.Common.{◌≡◌, ℕ, zero, suc, ◌<◌, ◌≤◌, Bool, true, false, cond, ◌⊎◌, List, [], ◌∷◌, map, length, drop, sym, refl, ap, ◌∙◌, subst, ap₂, subst₂, inl, inr, ⊎_elim, arith}
use Rattle.std.proofs.lemmas.List.{length-map, drop-map}
use Rattle.std.proofs.lemmas.Bool.{cases_lt}
use Rattle.cells.specs.declared.cell.Cell.{Cell}
use Rattle.cells.specs.declared.cell.Cell.TheVariants.{Reference, Pointer, Functor, Atom, Integer}
use Rattle.tables.specs.Tables.{Choice, Tables, used}
use Rattle.terms.specs.Terms.{Label, Term, var, node, cons, row}
use Rattle.terms.specs.Renamings.{Alike}
use Rattle.terms.proofs.AlikeLaws.{alike_refl, alike_trans}
use Rattle.heaps.specs.Lists.{Each, Among, here, further, is_in}
use Rattle.heaps.specs.Leads.{Heap, heap_of, LeadsBy, unbound, refers_to, is_functor}
use Rattle.heaps.specs.Spelling.{label_of, arity_of, run, layer, same, spell, spelled}
use Rattle.heaps.specs.Levels.{seen_from, back_to, undo}
use Rattle.heaps.specs.Rules.{WordKeeps, Closed, Rules}
use Rattle.heaps.specs.LevelLaws.{Stands}
use Rattle.heaps.specs.SpellingLaws.{Reads}
use Rattle.heaps.proofs.MemberLaws.{each_among}
use Rattle.heaps.proofs.SeenLaws.{unbind_at}
use Rattle.heaps.proofs.UnbindLaws.{heap_of_take, heap_of_past}
use Rattle.heaps.proofs.SpellLaws.{spell_layer, spell_only}
use Rattle.heaps.proofs.Sound.{rules_sound, cell_keeps}
use Rattle.heaps.proofs.CutLaws.{length_back}
use Rattle.heaps.proofs.UndoRules.{stands_undo}
use Rattle.heaps.proofs.ReachedUsed.{rules_inside}
use Rattle.collectors.specs.Shortening.{short, short_choice, shorten}
use Rattle.collectors.specs.LayerLaws.{LayeredShows, ShortenLayered}
use Rattle.collectors.proofs.PlacedLevels.{level_at, undo_level}
use Rattle.collectors.proofs.ShortWords.{leads_anywhere, target_keeps, short_passes, short_self, short_kind}
use Rattle.collectors.proofs.ShortenRules.{used_short, cell_short, beyond_short, low, seen_as, functor_stays, rules_shorten, fits_shorten}

pub layered_shows : LayeredShows
layered_shows count t u v l s = record {
  rules = s.rules;
  fits = s.fits;
  points = s.points ∙ l.points;
  counted = s.counted;
  spells = λ k le. alike_trans (l.spells k le) (s.spells k (let a = l.points in omega arith));
}

-- A level T of t, and the level U of the shortened tables: a cells in use, of which each holds in U what it holds in T, or holds in T
-- what it holds in t, and in U that word shortened. What is bound in t and not on its trail is so at the level.
module _ (t : Tables) (st : Stands t) (T U : Tables) (rT : Rules T) (rU : Rules U) (a : ℕ) (small : a ≤ used t)
    (cells : (n : ℕ) → (heap_of U.heap n ≡ heap_of T.heap n) ⊎ ((n < a) × (heap_of T.heap n ≡ heap_of t.heap n) × (heap_of U.heap n ≡ short t (heap_of t.heap n))))
    (stays : (m : ℕ) → m < a → is_in m t.trail ≡ false → heap_of T.heap m ≡ heap_of t.heap m)
    (below : (m j : ℕ) → m < a → LeadsBy m (heap_of T.heap m) j → j < a) where
  abbrev h : Heap
  h = heap_of t.heap

  abbrev s : Cell → Term
  s = spell T.heap

  abbrev Under : Cell → Type 0
  Under w = (j : ℕ) → LeadsBy 0 w j → j < a

  -- a shortened word spells what the word spells
  pub spell_short : (w : Cell) → WordKeeps h (used t) w → Under w → s (short t w) ≡ s w
  spell_short w k under = (short_passes t st (λ x. Under x × (s x ≡ s w)) on (used t) w k (under, refl)).1
    where
      on : (m : ℕ) → WordKeeps h (used t) (Reference m) → unbound h m ≡ false → is_in m t.trail ≡ false → Under (Reference m) × (s (Reference m) ≡ s w) → Under (h m) × (s (h m) ≡ s w)
      on m k' e f p =
          let lt : m < a = p.0 m (omega arith, omega arith) in
          let at = stays m lt f in
          let bound : unbound (heap_of T.heap) m ≡ false = ap (refers_to m) at ∙ e in (
            λ j l. below m j lt (subst (λ (d : Cell). LeadsBy m d j) (sym at) (leads_anywhere h (used t) 0 m (h m) (target_keeps t st m k') j l)),
            sym (spell_layer T rT (Reference m) ∙ ap (λ (b : Bool). cond b (var m) (s (heap_of T.heap m))) bound ∙ ap s at) ∙ p.1,
          )

  -- the spelling of T reads the heap of U
  reads : Reads same (heap_of U.heap) s
  reads (Reference n) = spell_layer T rT (Reference n) ∙ by (cells n)
    where
      by : (heap_of U.heap n ≡ heap_of T.heap n) ⊎ ((n < a) × (heap_of T.heap n ≡ h n) × (heap_of U.heap n ≡ short t (h n)))
          → layer same (heap_of T.heap) s (Reference n) ≡ layer same (heap_of U.heap) s (Reference n)
      by (inl e) = ap (λ (c : Cell). cond (refers_to n c) (var n) (s c)) (sym e)
      by (inr p) =
          ap (λ (c : Cell). cond (refers_to n c) (var n) (s c)) p.1
          ∙ test (is_functor (h n)) refl
          ∙ ap (λ (c : Cell). cond (refers_to n c) (var n) (s c)) (sym p.2)
        where
          lt : n < used t
          lt = let x = p.0 in omega arith

          test : (b : Bool) → is_functor (h n) ≡ b → cond (refers_to n (h n)) (var n) (s (h n)) ≡ cond (refers_to n (short t (h n))) (var n) (s (short t (h n)))
          test true e = ap (λ (c : Cell). cond (refers_to n c) (var n) (s c)) (sym (functor_stays t st n e))
          test false e =
              let k = cell_keeps h (used t) (rules_sound t st.0) n lt e in
              let under : Under (h n) = λ j l. below n j p.0 (subst (λ (d : Cell). LeadsBy n d j) (sym p.1) (leads_anywhere h (used t) 0 n (h n) k j l)) in
              ap₂ (λ (b : Bool) (x : Term). cond b (var n) x) (sym (short_self t st n lt)) (sym (spell_short (h n) k under))
  reads (Pointer n) = spell_layer T rT (Pointer n) ∙ by (cells n)
    where
      by : (heap_of U.heap n ≡ heap_of T.heap n) ⊎ ((n < a) × (heap_of T.heap n ≡ h n) × (heap_of U.heap n ≡ short t (h n)))
          → layer same (heap_of T.heap) s (Pointer n) ≡ layer same (heap_of U.heap) s (Pointer n)
      by (inl e) = ap (λ (c : Cell). node (label_of c) (run s (suc n) (arity_of c))) (sym e)
      by (inr p) =
          let kind = short_kind t st n (let x = p.0 in omega arith) in
          ap (λ (c : Cell). node (label_of c) (run s (suc n) (arity_of c))) p.1
          ∙ ap₂ (λ (l : Label) (k : ℕ). node l (run s (suc n) k)) (sym kind.0) (sym kind.1)
          ∙ ap (λ (c : Cell). node (label_of c) (run s (suc n) (arity_of c))) (sym p.2)
  reads (Functor name arity) = spell_layer T rT (Functor name arity)
  reads (Atom x) = spell_layer T rT (Atom x)
  reads (Integer z) = spell_layer T rT (Integer z)

  words_same : (ws : List Cell) → ((w : Cell) → Among w ws → WordKeeps h (used t) w × Under w) → row s ws ≡ row (spell U.heap) (map (short t) ws)
  words_same [] all = refl
  words_same (w ∷ ws) all =
      ap₂ cons (sym (spell_short w (all w here).0 (all w here).1) ∙ spell_only U rU s reads (short t w)) (words_same ws (λ x m. all x (further m)))

  pub level_same : U.registers ≡ map (short t) T.registers → ((w : Cell) → Among w T.registers → WordKeeps h (used t) w × Under w) → Alike (spelled T) (spelled U)
  level_same regs all = subst (Alike (spelled T)) (words_same T.registers all ∙ ap (row (spell U.heap)) (sym regs)) (alike_refl (spelled T))

module _ (t : Tables) (st : Stands t) where
  abbrev u : Tables
  u = shorten t

  abbrev Word : Cell → Type 0
  Word = WordKeeps (heap_of t.heap) (used t)

  stands_shorten : Stands u
  stands_shorten = (rules_shorten t st, fits_shorten t st)

  -- a word that may stand in a register leads to cells in use
  word_under : (w : Cell) → Word w → (j : ℕ) → LeadsBy 0 w j → j < used t
  word_under (Reference m) k j l = let a = k.0 in let b = l.1 in omega arith
  word_under (Pointer m) k j l = let a = k.0 in let b = l.1 in omega arith
  word_under (Functor name arity) k j l = absurd k
  word_under (Atom x) k j l = let b = l.1 in absurd (omega arith)
  word_under (Integer z) k j l = let b = l.1 in absurd (omega arith)

  present : Alike (spelled t) (spelled u)
  present = level_same t st t u st.0 (rules_shorten t st) (used t) (omega arith)
      (λ n. ⊎_elim (λ (lt : n < used t). inr (lt, refl, cell_short t st n lt)) (λ (le : used t ≤ n). inl (beyond_short t st n le ∙ sym (heap_of_past t.heap n le))) (cases_lt n (used t)))
      (λ m lt e. refl) (λ m j lt l. rules_inside t st.0 m j lt l) refl
      (λ w m. let k = each_among Word st.0.registers.0 m in (k, word_under w k))

  module _ (j : ℕ) (lt : j < length t.choices) (c : Choice) (ds : List Choice) (at : drop j t.choices ≡ c ∷ ds) (among : Among c t.choices) where
    abbrev T : Tables
    T = back_to c ds t

    abbrev U : Tables
    U = back_to (short_choice t c) (map (short_choice t) ds) u

    is_t : undo t (suc j) ≡ T
    is_t = undo_level t j c ds st.0.tops lt at

    is_u : undo u (suc j) ≡ U
    is_u =
        undo_level u j (short_choice t c) (map (short_choice t) ds) (rules_shorten t st).tops (let x = length-map t.choices (short_choice t) in omega arith)
        (drop-map (short_choice t) j t.choices ∙ ap (map (short_choice t)) at)

    top : c.heap_top ≤ used t
    top = low t st c among

    was : Closed t.heap t.trail c
    was = each_among (Closed t.heap t.trail) st.0.levels among

    in_t : (n : ℕ) → n < c.heap_top → heap_of T.heap n ≡ cond (is_in n (drop c.trail_top t.trail)) (Reference n) (heap_of t.heap n)
    in_t n l = heap_of_take c.heap_top (seen_from c t.heap t.trail) n l ∙ unbind_at t.heap (drop c.trail_top t.trail) n

    in_u : (n : ℕ) → n < c.heap_top → heap_of U.heap n ≡ cond (is_in n (drop c.trail_top t.trail)) (Reference n) (short t (heap_of t.heap n))
    in_u n l =
        heap_of_take c.heap_top (seen_from c u.heap u.trail) n l ∙ unbind_at u.heap (drop c.trail_top t.trail) n
        ∙ ap (cond (is_in n (drop c.trail_top t.trail)) (Reference n)) (cell_short t st n (let w = top in omega arith))

    cells : (n : ℕ) → (heap_of U.heap n ≡ heap_of T.heap n) ⊎ ((n < c.heap_top) × (heap_of T.heap n ≡ heap_of t.heap n) × (heap_of U.heap n ≡ short t (heap_of t.heap n)))
    cells n = ⊎_elim inside outside (cases_lt n c.heap_top)
      where
        outside : c.heap_top ≤ n → (heap_of U.heap n ≡ heap_of T.heap n) ⊎ ((n < c.heap_top) × (heap_of T.heap n ≡ heap_of t.heap n) × (heap_of U.heap n ≡ short t (heap_of t.heap n)))
        outside le =
            let x = length_back t c ds top in
            let y = length_back u (short_choice t c) (map (short_choice t) ds) (let z = used_short t st in let w = top in omega arith) in
            inl (heap_of_past U.heap n (omega arith) ∙ sym (heap_of_past T.heap n (omega arith)))

        inside : n < c.heap_top → (heap_of U.heap n ≡ heap_of T.heap n) ⊎ ((n < c.heap_top) × (heap_of T.heap n ≡ heap_of t.heap n) × (heap_of U.heap n ≡ short t (heap_of t.heap n)))
        inside l = by (is_in n (drop c.trail_top t.trail)) (in_t n l) (in_u n l)
          where
            by : (b : Bool) → heap_of T.heap n ≡ cond b (Reference n) (heap_of t.heap n) → heap_of U.heap n ≡ cond b (Reference n) (short t (heap_of t.heap n))
                → (heap_of U.heap n ≡ heap_of T.heap n) ⊎ ((n < c.heap_top) × (heap_of T.heap n ≡ heap_of t.heap n) × (heap_of U.heap n ≡ short t (heap_of t.heap n)))
            by true p q = inl (q ∙ sym p)
            by false p q = inr (l, p, q)

    older : Alike (spelled (undo t (suc j))) (spelled (undo u (suc j)))
    older = subst₂ (λ (x y : Tables). Alike (spelled x) (spelled y)) (sym is_t) (sym is_u)
        (level_same t st T U (subst Rules is_t (stands_undo t (suc j) st).0) (subst Rules is_u (stands_undo u (suc j) stands_shorten).0) c.heap_top top cells
        (λ m l e. heap_of_take c.heap_top (seen_from c t.heap t.trail) m l ∙ seen_as t st c among m e)
        (λ m k l p. was.below m k l (subst (λ (d : Cell). LeadsBy m d k) (heap_of_take c.heap_top (seen_from c t.heap t.trail) m l) p))
        refl
        (λ w m. (each_among Word (each_among (λ d. Each Word d.saved) st.0.registers.1 among) m, each_among (λ x. (k : ℕ) → LeadsBy 0 x k → k < c.heap_top) was.saved m)))

  levels : (k : ℕ) → k ≤ length t.choices → Alike (spelled (undo t k)) (spelled (undo u k))
  levels zero le = present
  levels (suc j) le = let x = level_at j t.choices (omega arith) in older j (omega arith) x.0 x.1 x.2 x.3

pub shorten_layered : ShortenLayered
shorten_layered t st = record { stands = stands_shorten t st; points = length-map t.choices (short_choice t); spells = levels t st }
