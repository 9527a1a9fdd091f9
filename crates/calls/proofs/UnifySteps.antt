-- Each step of unification on tables is Robinson's step on the goals that the pairs spell.
use Rattle.std.proofs.Common.{◌≡◌, ℕ, zero, suc, ◌+◌, ◌<◌, Bool, true, false, cond, eqb, ltb, List, [], ◌∷◌, sym, refl, ap, ◌∙◌, subst, subst₂, arith, Option, Some, None}
use Rattle.std.proofs.lemmas.Bool.{both_ways}
use Rattle.cells.specs.declared.cell.Cell.{Cell}
use Rattle.cells.specs.declared.cell.Cell.TheVariants.{Reference, Pointer, Functor, Atom, Integer}
use Rattle.tables.specs.Tables.{Tables, used, cell_at}
use Rattle.terms.specs.Terms.{Label, functor, Term, Terms, var, node, nil, occurs, size, only, same_int, same_label}
use Rattle.terms.specs.Unifiers.{Subst}
use Rattle.terms.specs.Robinson as Terms
use Rattle.terms.specs.Robinson.{Goal, both, each, unify}
use Rattle.terms.proofs.TermLaws.{apply_var, ne_occurs}
use Rattle.terms.proofs.SameLaws.{same_label_true}
use Rattle.heaps.specs.Lists.{Each}
use Rattle.heaps.specs.Leads.{heap_of, unbound}
use Rattle.heaps.specs.Spelling.{label_of, arity_of, run, spell}
use Rattle.heaps.specs.Binding.{bind}
use Rattle.heaps.specs.Ends.{end}
use Rattle.heaps.specs.SpellingLaws.{Bindable}
use Rattle.heaps.specs.LevelLaws.{Stands, Keeps}
use Rattle.heaps.proofs.BindLaws.{spell_bind, keeps_bind}
use Rattle.heaps.proofs.SpellLaws.{spell_unbound, spell_pointer}
use Rattle.calls.specs.Unifying as Cells
use Rattle.calls.specs.Unifying.{Pair, words, rows, bind_to, unify_words}
use Rattle.calls.specs.UnifyLaws.{Bound, BothBound, UnifySteps}
use Rattle.calls.proofs.UnifyEnds.{Ended, variable, structure, atom, integer, end_ended, keeps_end, keeps_reference}
use Rattle.calls.proofs.UnifyBound.{bound_nothing, bound_more}
use Rattle.calls.specs.Pairs.{PairKeeps}
use Rattle.calls.proofs.UnifyPairs.{goals_of, pairs_keep, goals_apply}

-- The work on tables, begun at t₀, has come as far as the work on terms.
pub record Along (t₀ t : Tables) (ps : List Pair) (σ : Subst) (gs : List Goal) : Type 0 where
  pub bound : Bound t₀ t σ
  pub pairs : Each (PairKeeps t) ps
  pub goals : gs ≡ goals_of (spell t.heap) ps

abbrev pub AlongNext : Tables → Cells.Next → Terms.Next → Type 0
AlongNext t₀ (Cells.stop o) (Terms.stop p) = BothBound t₀ o p
AlongNext t₀ (Cells.stop o) (Terms.go σ gs) = ⊥
AlongNext t₀ (Cells.go t ps) (Terms.stop p) = ⊥
AlongNext t₀ (Cells.go t ps) (Terms.go σ gs) = Along t₀ t ps σ gs

module _ (t₀ t : Tables) (ps : List Pair) (σ : Subst) (b : Bound t₀ t σ) (v : Each (PairKeeps t) ps) where
  abbrev S : Cell → Term
  S = spell t.heap

  abbrev gs : List Goal
  gs = goals_of S ps

  stay : Along t₀ t ps σ gs
  stay = record { bound = b; pairs = v; goals = refl }

  -- a binding on both sides
  binds : (x : ℕ) (w : Cell) (u : Term) → Keeps t (Reference x) → unbound (heap_of t.heap) x ≡ true → Keeps t w → S w ≡ u → occurs x u ≡ false
      → AlongNext t₀ (Cells.go (bind t x w) ps) (Terms.bind x u σ gs)
  binds x w u kx free kw e absent = subst (λ (a : Term). AlongNext t₀ (Cells.go (bind t x w) ps) (Terms.bind x a σ gs)) e (record {
    bound = bound_more t₀ t σ x w b ok kw.1;
    pairs = pairs_keep t (bind t x w) (λ d k. (keeps_bind t x w b.stands.0 ok d k.0, k.1)) ps v;
    goals = sym (goals_apply (only x (S w)) S (spell (bind t x w).heap) (spell_bind t x w b.stands.0 ok) ps);
  })
    where
      ok : Bindable t x w
      ok = record { in_use = kx.0.0; free = free; keeps = kw.0; absent = ap (occurs x) e ∙ absent }

  -- a variable meets a word that spells a label with arguments
  binds_to : (x : ℕ) (w : Cell) (l : Label) (us : Terms) → Keeps t (Reference x) → unbound (heap_of t.heap) x ≡ true → Keeps t w → S w ≡ node l us
      → AlongNext t₀ (bind_to t x w ps) (cond (occurs x us) (Terms.stop None) (Terms.bind x (node l us) σ gs))
  binds_to x w l us kx free kw e = test (occurs x (S w)) (occurs x us) (ap (occurs x) e) refl
    where
      test : (c d : Bool) → c ≡ d → occurs x us ≡ d → AlongNext t₀ (cond c (Cells.stop None) (Cells.go (bind t x w) ps)) (cond d (Terms.stop None) (Terms.bind x (node l us) σ gs))
      test true true p o = tt
      test true false p o = absurd (both_ways true p refl)
      test false true p o = absurd (both_ways false refl p)
      test false false p o = binds x w (node l us) kx free kw e o

  -- two structures
  structures : (p q f g m n : ℕ) → p < used t → q < used t → cell_at t p ≡ Functor f m → cell_at t q ≡ Functor g n
      → AlongNext t₀ (Cells.meet t (Pointer p) (Pointer q) ps) (Terms.meet (node (functor f m) (run S (suc p) m)) (node (functor g n) (run S (suc q) n)) σ gs)
  structures p q f g m n lp lq ep eq = subst₂ P (sym ep) (sym eq) (test (same_label (functor f m) (functor g n)) refl)
    where
      rest : Terms.Next
      rest = Terms.go σ (each (run S (suc p) m) (run S (suc q) n) ∷ gs)

      P : Cell → Cell → Type 0
      P c d = AlongNext t₀ (cond (same_label (label_of c) (label_of d)) (Cells.go t (rows (suc p) (suc q) (arity_of c) ∷ ps)) (Cells.stop None))
          (cond (same_label (functor f m) (functor g n)) rest (Terms.stop None))

      argument : (i h k j : ℕ) → i < used t → cell_at t i ≡ Functor h k → j < k → Keeps t (Reference (suc i + j))
      argument i h k j lt e le = keeps_reference t (suc i + j) b.stands.1 (b.stands.0.arguments i h k (suc i + j) lt e (omega arith) (omega arith))

      test : (c : Bool) → same_label (functor f m) (functor g n) ≡ c
          → AlongNext t₀ (cond c (Cells.go t (rows (suc p) (suc q) m ∷ ps)) (Cells.stop None)) (cond c rest (Terms.stop None))
      test true e = let l : functor f m ≡ functor g n = same_label_true _ _ e in let k : n ≡ m = cc in record {
        bound = b;
        pairs = ((λ j lt. (argument p f m j lp ep lt, argument q g n j lq eq (omega arith))), v);
        goals = ap (λ (a : ℕ). each (run S (suc p) m) (run S (suc q) a) ∷ gs) k;
      }
      test false e = tt

  -- two atoms or two integers
  constants : (c : Bool) → AlongNext t₀ (cond c (Cells.go t (rows 0 0 0 ∷ ps)) (Cells.stop None)) (cond c (Terms.go σ (each nil nil ∷ gs)) (Terms.stop None))
  constants true = record { bound = b; pairs = ((λ j lt. absurd (omega arith)), v); goals = refl }
  constants false = tt

  -- two variables
  variables : (x y : ℕ) → unbound (heap_of t.heap) x ≡ true → unbound (heap_of t.heap) y ≡ true → Keeps t (Reference x) → Keeps t (Reference y)
      → AlongNext t₀ (Cells.meet t (Reference x) (Reference y) ps) (Terms.meet (var x) (var y) σ gs)
  variables x y p q k l = test (eqb x y) refl
    where
      order : (c : Bool) → eqb x y ≡ false
          → AlongNext t₀ (cond c (Cells.go (bind t y (Reference x)) ps) (Cells.go (bind t x (Reference y)) ps)) (cond c (Terms.bind y (var x) σ gs) (Terms.bind x (var y) σ gs))
      order true e = binds y (Reference x) (var x) l q k (spell_unbound t b.stands.0 x p) e
      order false e = binds x (Reference y) (var y) k p l (spell_unbound t b.stands.0 y q) (ne_occurs x y e)

      test : (c : Bool) → eqb x y ≡ c
          → AlongNext t₀ (cond c (Cells.go t ps) (cond (ltb x y) (Cells.go (bind t y (Reference x)) ps) (Cells.go (bind t x (Reference y)) ps)))
          (cond c (Terms.go σ gs) (cond (ltb x y) (Terms.bind y (var x) σ gs) (Terms.bind x (var y) σ gs)))
      test true e = stay
      test false e = order (ltb x y) e

  meet_along : {c d : Cell} {u w : Term} → Ended t c u → Ended t d w → Keeps t c → Keeps t d → AlongNext t₀ (Cells.meet t c d ps) (Terms.meet u w σ gs)
  meet_along (variable x p) (variable y q) k l = variables x y p q k l
  meet_along (variable x p) (structure q g n e) k l = binds_to x (Pointer q) _ _ k p l (spell_pointer t b.stands.0 q g n e)
  meet_along (variable x p) (atom a) k l = binds_to x (Atom a) _ _ k p l refl
  meet_along (variable x p) (integer z) k l = binds_to x (Integer z) _ _ k p l refl
  meet_along (structure p f m e) (variable y q) k l = binds_to y (Pointer p) _ _ l q k (spell_pointer t b.stands.0 p f m e)
  meet_along (structure p f m d) (structure q g n e) k l = structures p q f g m n k.0.0 l.0.0 d e
  meet_along (structure p f m e) (atom a) k l = tt
  meet_along (structure p f m e) (integer z) k l = tt
  meet_along (atom a) (variable y q) k l = binds_to y (Atom a) _ _ l q k refl
  meet_along (atom a) (structure q g n e) k l = tt
  meet_along (atom a) (atom c) k l = constants (eqb a c)
  meet_along (atom a) (integer z) k l = tt
  meet_along (integer y) (variable x q) k l = binds_to x (Integer y) _ _ l q k refl
  meet_along (integer y) (structure q g n e) k l = tt
  meet_along (integer y) (atom a) k l = tt
  meet_along (integer y) (integer z) k l = constants (same_int y z)

  words_along : (c d : Cell) → Keeps t c → Keeps t d → AlongNext t₀ (Cells.meet t (end t c) (end t d) ps) (Terms.meet (S c) (S d) σ gs)
  words_along c d k l = let s = b.stands in meet_along (end_ended t s.0 c k.0) (end_ended t s.0 d l.0) (keeps_end t c s k) (keeps_end t d s l)

pub step_along : (t₀ t : Tables) (ps : List Pair) (σ : Subst) (gs : List Goal) → Along t₀ t ps σ gs → AlongNext t₀ (Cells.step t ps) (Terms.step σ gs)
step_along t₀ t ps σ gs a = subst (λ (hs : List Goal). AlongNext t₀ (Cells.step t ps) (Terms.step σ hs)) (sym a.goals) (by ps a.pairs)
  where
    by : (qs : List Pair) → Each (PairKeeps t) qs → AlongNext t₀ (Cells.step t qs) (Terms.step σ (goals_of (spell t.heap) qs))
    by [] v = a.bound
    by (words c d ∷ qs) v = words_along t₀ t qs σ a.bound v.1 c d v.0.0 v.0.1
    by (rows i j zero ∷ qs) v = record { bound = a.bound; pairs = v.1; goals = refl }
    by (rows i j (suc k) ∷ qs) v = record {
      bound = a.bound;
      pairs = (first (v.0 0 (omega arith)), ((λ m lt. next m (v.0 (suc m) (omega arith))), v.1));
      goals = refl;
    }
      where
        first : Keeps t (Reference (i + 0)) × Keeps t (Reference (j + 0)) → Keeps t (Reference i) × Keeps t (Reference j)
        first p = subst₂ (λ (x y : ℕ). Keeps t (Reference x) × Keeps t (Reference y)) (omega arith) (omega arith) p

        next : (m : ℕ) → Keeps t (Reference (i + suc m)) × Keeps t (Reference (j + suc m)) → Keeps t (Reference (suc i + m)) × Keeps t (Reference (suc j + m))
        next m p = subst₂ (λ (x y : ℕ). Keeps t (Reference x) × Keeps t (Reference y)) (omega arith) (omega arith) p

pub solve_along : (t₀ : Tables) (g : ℕ) (t : Tables) (ps : List Pair) (σ : Subst) (goals : List Goal) → Along t₀ t ps σ goals → BothBound t₀ (Cells.solve g t ps) (Terms.solve g σ goals)
solve_along t₀ zero t ps σ goals a = tt
solve_along t₀ (suc g) t ps σ goals a = by (Cells.step t ps) (Terms.step σ goals) (step_along t₀ t ps σ goals a) (solve_along t₀ g)
  where
    by : (x : Cells.Next) (y : Terms.Next) → AlongNext t₀ x y
        → ((u : Tables) (qs : List Pair) (τ : Subst) (hs : List Goal) → Along t₀ u qs τ hs → BothBound t₀ (Cells.solve g u qs) (Terms.solve g τ hs))
        → BothBound t₀ (Cells.after (Cells.solve g) x) (Terms.after (Terms.solve g) y)
    by (Cells.stop o) (Terms.stop p) s ih = s
    by (Cells.stop o) (Terms.go τ hs) s ih = absurd s
    by (Cells.go u qs) (Terms.stop p) s ih = absurd s
    by (Cells.go u qs) (Terms.go τ hs) s ih = ih u qs τ hs s

pub along_start : (t : Tables) (a b : Cell) → Stands t → Keeps t a → Keeps t b → Along t t (words a b ∷ []) var (both (spell t.heap a) (spell t.heap b) ∷ [])
along_start t a b s k l = record { bound = bound_nothing t s; pairs = ((k, l), tt); goals = refl }

pub unify_steps : UnifySteps
unify_steps t a b s k l = subst₂ P (sym (apply_var (spell t.heap a))) (sym (apply_var (spell t.heap b))) (solve_along t _ t (words a b ∷ []) var _ (along_start t a b s k l))
  where
    P : Term → Term → Type 0
    P u w = BothBound t (unify_words t a b) (Terms.solve (Terms.enough (Terms.variables u + Terms.variables w) (suc (size u + size w))) var (both u w ∷ []))

-- What the answer on tables says of the answer on terms.
pub unify_some : (t : Tables) (a b : Cell) (u : Tables) → Stands t → Keeps t a → Keeps t b → unify_words t a b ≡ Some u
    → (σ : Subst) × (unify var (spell t.heap a) (spell t.heap b) ≡ Some σ) × Bound t u σ
unify_some t a b u s k l e = by (unify var (spell t.heap a) (spell t.heap b)) (subst (λ (o : Option Tables). BothBound t o (unify var (spell t.heap a) (spell t.heap b))) e (unify_steps t a b s k l))
  where
    by : (r : Option Subst) → BothBound t (Some u) r → (σ : Subst) × (r ≡ Some σ) × Bound t u σ
    by None p = absurd p
    by (Some σ) p = (σ, refl, p)

pub unify_none : (t : Tables) (a b : Cell) → Stands t → Keeps t a → Keeps t b → unify_words t a b ≡ None → unify var (spell t.heap a) (spell t.heap b) ≡ None
unify_none t a b s k l e = by (unify var (spell t.heap a) (spell t.heap b)) (subst (λ (o : Option Tables). BothBound t o (unify var (spell t.heap a) (spell t.heap b))) e (unify_steps t a b s k l))
  where
    by : (r : Option Subst) → BothBound t None r → r ≡ None
    by None p = refl
    by (Some σ) p = absurd p
