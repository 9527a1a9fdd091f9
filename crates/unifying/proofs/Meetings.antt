-- How two ends meet that are not both structures: they are the same word, or a variable is bound to the other word,
-- or no solution reads them alike.
use Rattle.std.proofs.Common.{◌≡◌, ℕ, Bool, true, false, cond, eqb, ltb, ◌↔◌, List, ◌∷◌, sym, refl, ap, ◌∙◌, None}
use Rattle.std.proofs.lemmas.Bool.{both_ways, eqb-true, eqb-false, ne_eqb}
use Rattle.cells.specs.declared.cell.Cell.{Cell}
use Rattle.cells.specs.declared.cell.Cell.TheVariants.{Reference, Pointer, Atom, Integer}
use Rattle.cells.specs.Cells.{in_range}
use Rattle.tables.specs.Tables.{Tables}
use Rattle.terms.specs.Terms.{Label, named, whole, Term, Terms, node, nil, apply, occurs, same_label}
use Rattle.terms.proofs.TermLaws.{no_loop}
use Rattle.terms.proofs.SameLaws.{same_label_true, same_label_false}
use Rattle.heaps.specs.Leads.{heap_of, unbound}
use Rattle.heaps.specs.Spelling.{spell}
use Rattle.heaps.specs.Binding.{bind}
use Rattle.heaps.specs.Rules.{Rules}
use Rattle.heaps.specs.SpellingLaws.{Bindable}
use Rattle.heaps.specs.LevelLaws.{Keeps}
use Rattle.heaps.proofs.SpellLaws.{spell_unbound}
use Rattle.calls.specs.Unifying.{Pair, rows, Next, stop, go, meet, bind_to}
use Rattle.calls.proofs.UnifyEnds.{Ended, variable, structure, atom, integer}
use Rattle.unifying.specs.Merging.{both_pointers}
use Rattle.unifying.proofs.SolutionLaws.{Reading, Solution}

-- the outcome where the ends c and d meet
pub data Met (t : Tables) (ps : List Pair) (c d : Cell) : Next → Type 0 where
  same_variable : c ≡ d → Met t ps c d (go t ps)
  same_constant : c ≡ d → Met t ps c d (go t (rows 0 0 0 ∷ ps))
  binding : (x : ℕ) (w : Cell) → Bindable t x w → in_range w ≡ true → ((s : Reading) → (s c ≡ s d) ↔ (s (Reference x) ≡ s w)) → Met t ps c d (go (bind t x w) ps)
  failing : ((s : Reading) → Solution t s → s c ≡ s d → ⊥) → Met t ps c d (stop None)

module _ (t : Tables) (r : Rules t) (ps : List Pair) where
  -- different labels
  labels_clash : (c d : Cell) (l m : Label) (ts us : Terms) → spell t.heap c ≡ node l ts → spell t.heap d ≡ node m us → same_label l m ≡ false → Met t ps c d (stop None)
  labels_clash c d l m ts us e g apart = failing (λ s f q.
      let z : node l (apply f.0 ts) ≡ node m (apply f.0 us) = ap (apply f.0) (sym e) ∙ sym (f.1 c) ∙ q ∙ f.1 d ∙ ap (apply f.0) g in
      same_label_false l m apart (cc z))

  constants : (c d : Cell) (l m : Label) → spell t.heap c ≡ node l nil → spell t.heap d ≡ node m nil → (l ≡ m → c ≡ d)
      → Met t ps c d (cond (same_label l m) (go t (rows 0 0 0 ∷ ps)) (stop None))
  constants c d l m e g same = test (same_label l m) refl
    where
      test : (b : Bool) → same_label l m ≡ b → Met t ps c d (cond b (go t (rows 0 0 0 ∷ ps)) (stop None))
      test true q = same_constant (same (same_label_true l m q))
      test false q = labels_clash c d l m nil nil e g q

  -- a variable meets a word that is no variable, either way round
  against : (c d : Cell) (x : ℕ) (w : Cell) (l : Label) (us : Terms) → ((s : Reading) → (s c ≡ s d) ↔ (s (Reference x) ≡ s w))
      → Keeps t (Reference x) → unbound (heap_of t.heap) x ≡ true → Keeps t w → spell t.heap w ≡ node l us → Met t ps c d (bind_to t x w ps)
  against c d x w l us turn kx free kw e = test (occurs x (spell t.heap w)) refl
    where
      test : (b : Bool) → occurs x (spell t.heap w) ≡ b → Met t ps c d (cond b (stop None) (go (bind t x w) ps))
      test true q = failing (λ s f p. no_loop x f.0 l us (sym (ap (occurs x) e) ∙ q)
          (ap (apply f.0) (sym (spell_unbound t r x free)) ∙ sym (f.1 (Reference x)) ∙ (turn s).0 p ∙ f.1 w ∙ ap (apply f.0) e))
      test false q = binding x w (record { in_use = kx.0.0; free = free; keeps = kw.0; absent = q }) kw.1 turn

  two_variables_lem : (x y : ℕ) → unbound (heap_of t.heap) x ≡ true → unbound (heap_of t.heap) y ≡ true → Keeps t (Reference x) → Keeps t (Reference y)
      → Met t ps (Reference x) (Reference y) (meet t (Reference x) (Reference y) ps)
  two_variables_lem x y fx fy kx ky = test (eqb x y) refl
    where
      higher : (b : Bool) → eqb x y ≡ false → Met t ps (Reference x) (Reference y) (cond b (go (bind t y (Reference x)) ps) (go (bind t x (Reference y)) ps))
      higher true q = binding y (Reference x) (record { in_use = ky.0.0; free = fy; keeps = kx.0; absent = ap (occurs y) (spell_unbound t r x fx) ∙ q }) kx.1
          (λ s. (λ p. sym p, λ p. sym p))
      higher false q = binding x (Reference y) (record {
        in_use = kx.0.0;
        free = fx;
        keeps = ky.0;
        absent = ap (occurs x) (spell_unbound t r y fy) ∙ ne_eqb y x (λ p. eqb-false x y q (sym p));
      }) ky.1 (λ s. (λ p. p, λ p. p))

      test : (b : Bool) → eqb x y ≡ b → Met t ps (Reference x) (Reference y) (cond b (go t ps) (cond (ltb x y) (go (bind t y (Reference x)) ps) (go (bind t x (Reference y)) ps)))
      test true q = same_variable (ap Reference (eqb-true x y q))
      test false q = higher (ltb x y) q

  ahead : {c d : Cell} {x : ℕ} {w : Cell} → c ≡ Reference x → d ≡ w → (s : Reading) → (s c ≡ s d) ↔ (s (Reference x) ≡ s w)
  ahead e g s = (λ p. sym (ap s e) ∙ p ∙ ap s g, λ p. ap s e ∙ p ∙ sym (ap s g))

  turned : {c d : Cell} {x : ℕ} {w : Cell} → c ≡ w → d ≡ Reference x → (s : Reading) → (s c ≡ s d) ↔ (s (Reference x) ≡ s w)
  turned e g s = (λ p. sym (ap s g) ∙ sym p ∙ ap s e, λ p. ap s e ∙ sym p ∙ sym (ap s g))

  pub meets : {c d : Cell} {u v : Term} → Ended t c u → Ended t d v → spell t.heap c ≡ u → spell t.heap d ≡ v → Keeps t c → Keeps t d
      → both_pointers c d ≡ false → Met t ps c d (meet t c d ps)
  meets (variable x p) (variable y q) e g k l apart = two_variables_lem x y p q k l
  meets (variable x p) (structure q f a z) e g k l apart = against _ _ x (Pointer q) _ _ (ahead refl refl) k p l g
  meets (variable x p) (atom b) e g k l apart = against _ _ x (Atom b) _ _ (ahead refl refl) k p l g
  meets (variable x p) (integer z) e g k l apart = against _ _ x (Integer z) _ _ (ahead refl refl) k p l g
  meets (structure p f a z) (variable y q) e g k l apart = against _ _ y (Pointer p) _ _ (turned refl refl) l q k e
  meets (structure p f a z) (structure q h b y) e g k l apart = absurd (both_ways true apart refl)
  meets (structure p f a z) (atom b) e g k l apart = labels_clash _ _ _ _ _ _ e g refl
  meets (structure p f a z) (integer y) e g k l apart = labels_clash _ _ _ _ _ _ e g refl
  meets (atom a) (variable y q) e g k l apart = against _ _ y (Atom a) _ _ (turned refl refl) l q k e
  meets (atom a) (structure q f b z) e g k l apart = labels_clash _ _ _ _ _ _ e g refl
  meets (atom a) (atom b) e g k l apart = constants _ _ (named a) (named b) e g (λ q. let z : a ≡ b = cc q in ap Atom z)
  meets (atom a) (integer z) e g k l apart = labels_clash _ _ _ _ _ _ e g refl
  meets (integer z) (variable y q) e g k l apart = against _ _ y (Integer z) _ _ (turned refl refl) l q k e
  meets (integer z) (structure q f b y) e g k l apart = labels_clash _ _ _ _ _ _ e g refl
  meets (integer z) (atom b) e g k l apart = labels_clash _ _ _ _ _ _ e g refl
  meets (integer y) (integer z) e g k l apart = constants _ _ (whole y) (whole z) e g (λ q. let p : y ≡ z = cc q in ap Integer p)
