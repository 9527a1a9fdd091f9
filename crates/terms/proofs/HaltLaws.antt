-- The steps of unification end: `enough` of them suffice.
use Rattle.std.proofs.Common.{◌≡◌, ℕ, zero, suc, ◌+◌, ◌*◌, ◌<◌, ◌≤◌, true, List, [], ◌∷◌, ◌++◌, length, inl, inr, mul-le-mul, arith}
use Rattle.std.proofs.lemmas.Bool.{both_ways, or_cases}
use Rattle.terms.specs.Unifiers.{Subst}
use Rattle.terms.specs.Robinson.{Goal, both, each, Next, stop, go, step, enough}
use Rattle.terms.proofs.Names.{mem, without, without_lt, mem_without, names, names_two, mem_left, mem_right}
use Rattle.terms.proofs.FallLaws.{size_goals, occurs_goal, occurs_goals, Fewer, Falls, step_falls}

-- The steps from these values and goals end within so many.
abbrev pub HaltsAt : (Subst → List Goal → Type 0) → Next → Type 0
HaltsAt H (stop r) = Unit {0}
HaltsAt H (go τ hs) = H τ hs

abbrev pub Halts : ℕ → Subst → List Goal → Type 0
Halts zero σ gs = ⊥
Halts (suc k) σ gs = HaltsAt (Halts k) (step σ gs)

at_more : (H K : Subst → List Goal → Type 0) → ((σ : Subst) (gs : List Goal) → H σ gs → K σ gs) → (n : Next) → HaltsAt H n → HaltsAt K n
at_more H K f (stop r) h = h
at_more H K f (go τ hs) h = f τ hs h

pub halts_more : (k j : ℕ) → k ≤ j → (σ : Subst) (gs : List Goal) → Halts k σ gs → Halts j σ gs
halts_more zero j e σ gs h = absurd h
halts_more (suc k) zero e σ gs h = absurd (omega arith)
halts_more (suc k) (suc j) e σ gs h = at_more (Halts k) (Halts j) (halts_more k j (omega arith)) (step σ gs) h

-- Every variable of the goals is in the list.
abbrev pub Within : List ℕ → List Goal → Type 0
Within vs gs = (y : ℕ) → occurs_goals y gs ≡ true → mem y vs ≡ true

-- The goals have at most v variables and size K, and F steps suffice once a variable is out of them.
module _ (K F v : ℕ) (outer : (σ : Subst) (hs : List Goal) (ws : List ℕ) → length ws < v → Within ws hs → size_goals hs ≤ K * K → Halts F σ hs) where
  fewer : (gs hs : List Goal) (vs : List ℕ) (τ : Subst) → length vs ≤ v → Within vs gs → size_goals gs ≤ K → Fewer gs hs → Halts F τ hs
  fewer gs hs vs τ lv w sz f = outer τ hs (without f.x vs)
      (let a = without_lt f.x vs (w f.x f.was) in omega arith)
      (λ y h. mem_without f.x y vs (w y (f.kept y h)) (λ e. both_ways (occurs_goals y hs) (rw e f.gone) h))
      (let a = f.square in let b : size_goals gs * size_goals gs ≤ K * K = mul-le-mul sz sz in omega arith)

  inner : (k : ℕ) → k ≤ K → (σ : Subst) (gs : List Goal) (vs : List ℕ) → length vs ≤ v → Within vs gs → size_goals gs ≤ k → Halts (suc (k + F)) σ gs
  inner zero le σ [] vs lv w sz = tt
  inner zero le σ (both t u ∷ gs) vs lv w sz = absurd (omega arith)
  inner zero le σ (each t u ∷ gs) vs lv w sz = absurd (omega arith)
  inner (suc k) le σ gs vs lv w sz = next (step σ gs) (step_falls σ gs) (inner k (omega arith))
    where
      next : (n : Next) → Falls gs n → ((τ : Subst) (hs : List Goal) (ws : List ℕ) → length ws ≤ v → Within ws hs → size_goals hs ≤ k → Halts (suc (k + F)) τ hs)
          → HaltsAt (Halts (suc k + F)) n
      next (stop r) f ih = tt
      next (go τ hs) (inl s) ih = halts_more (suc (k + F)) (suc k + F) (omega arith) τ hs (ih τ hs vs lv (λ y h. w y (s.kept y h)) (let a = s.less in omega arith))
      next (go τ hs) (inr f) ih = halts_more F (suc k + F) (omega arith) τ hs (fewer gs hs vs τ lv w (omega arith) f)

pub halts : (v k : ℕ) (σ : Subst) (gs : List Goal) (vs : List ℕ) → length vs ≤ v → Within vs gs → size_goals gs ≤ k → Halts (enough v k) σ gs
halts zero k σ gs vs lv w sz = halts_more (suc (k + 0)) (suc k) (omega arith) σ gs (inner k 0 0 (λ τ hs ws lw ww sw. absurd (omega arith)) k (omega arith) σ gs vs lv w sz)
halts (suc v) k σ gs vs lv w sz = inner k (enough v (k * k)) (suc v) (λ τ hs ws lw ww sw. halts v (k * k) τ hs ws (omega arith) ww sw) k (omega arith) σ gs vs lv w sz

-- The variables of the goals, as a list.
abbrev pub names_goal : Goal → List ℕ
names_goal (both t u) = names t ++ names u
names_goal (each ts us) = names ts ++ names us

abbrev pub names_of : List Goal → List ℕ
names_of [] = []
names_of (g ∷ gs) = names_goal g ++ names_of gs

goal_within : (g : Goal) (y : ℕ) → occurs_goal y g ≡ true → mem y (names_goal g) ≡ true
goal_within (both t u) y h = names_two y t u h
goal_within (each ts us) y h = names_two y ts us h

pub names_of_within : (gs : List Goal) → Within (names_of gs) gs
names_of_within [] y h = h
names_of_within (g ∷ gs) y h = elim (or_cases (occurs_goal y g) (occurs_goals y gs) h) [
  | inl p ↦ mem_left y (names_goal g) (names_of gs) (goal_within g y p)
  | inr p ↦ mem_right y (names_goal g) (names_of gs) (names_of_within gs y p)
]

pub halts_goals : (v k : ℕ) (σ : Subst) (gs : List Goal) → length (names_of gs) ≤ v → size_goals gs ≤ k → Halts (enough v k) σ gs
halts_goals v k σ gs n z = halts v k σ gs (names_of gs) n (names_of_within gs) z
