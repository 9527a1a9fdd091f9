-- Each reached cell is where a walk ends that begins where a word leads and takes no unbound variable's own reference.
use Rattle.std.proofs.Common.{◌≡◌, ℕ, true, false, List, refl, subst, ⊎_elim, arith}
use Rattle.std.proofs.lemmas.Bool.{both_ways, eqb-true, cases_Bool}
use Rattle.cells.specs.declared.cell.Cell.{Cell}
use Rattle.cells.specs.declared.cell.Cell.TheVariants.{Reference, Pointer, Functor, Atom, Integer}
use Rattle.heaps.specs.Lists.{Among}
use Rattle.heaps.specs.Leads.{Heap, LeadsBy, refers_to, unbound, Leads, Way, step, more}
use Rattle.heaps.specs.Reached.{Reaches, direct, onward}

-- no step, or one or more
pub data Walk (h : Heap) : ℕ → ℕ → Type 0 where
  stay : {i : ℕ} → Walk h i i
  go : {i j k : ℕ} → Leads h i j → Walk h j k → Walk h i k

walk_more : (h : Heap) {i j k : ℕ} → Walk h i j → Leads h j k → Walk h i k
walk_more h stay l = go l stay
walk_more h (go m w) l = go m (walk_more h w l)

pub way_more : (h : Heap) {i j k : ℕ} → Way h i j → Leads h j k → Way h i k
way_more h (step m) l = more m (step l)
way_more h (more m w) l = more m (way_more h w l)

-- an unbound variable leads to itself only
unbound_leads : (i j : ℕ) (c : Cell) → refers_to i c ≡ true → LeadsBy i c j → i ≡ j
unbound_leads i j (Reference m) e l = let q = eqb-true m i e in let a = l.0 in let b = l.1 in omega arith
unbound_leads i j (Pointer m) e l = absurd (both_ways false refl e)
unbound_leads i j (Functor name arity) e l = absurd (both_ways false refl e)
unbound_leads i j (Atom n) e l = absurd (both_ways false refl e)
unbound_leads i j (Integer z) e l = absurd (both_ways false refl e)

walk_on : (h : Heap) {i j k : ℕ} → Walk h i j → LeadsBy j (h j) k → Walk h i k
walk_on h {i} {j} {k} w l =
    ⊎_elim (λ e. subst (Walk h i) (unbound_leads j k (h j) e l) w) (λ e. walk_more h w (l, e)) (cases_Bool (unbound h j))

pub reached_walk : (h : Heap) (ws : List Cell) (k : ℕ) → Reaches h ws k → (w : Cell) × (j : ℕ) × Among w ws × LeadsBy 0 w j × Walk h j k
reached_walk h ws k (direct {w = w} m l) = (w, k, m, l, stay)
reached_walk h ws k (onward {i = i} r l) = let f = reached_walk h ws i r in (f.0, f.1, f.2, f.3, walk_on h f.4 l)
