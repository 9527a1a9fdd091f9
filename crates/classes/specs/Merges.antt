-- Classes of structures set equal, as a list of merges.
use Rattle.std.specs.Prelude.{◌≡◌, ℕ, ◌<◌, Bool, false, cond, List, [], ◌∷◌, ◌==◌}

-- two structures set equal, each named by its functor's cell
abbrev pub Merge : Type 0
Merge = ℕ × ℕ

-- The structure that stands for the class of p, where the newest merge comes first.
-- A merge puts the first structure's class in the place of the second's.
abbrev pub rep : List Merge → ℕ → ℕ
rep [] p = p
rep (m ∷ merges) p = cond (rep merges p == rep merges m.1) (rep merges m.0) (rep merges p)

abbrev pub same_class : List Merge → ℕ → ℕ → Bool
same_class merges p q = rep merges p == rep merges q

-- Each merge joined two classes of cells below n.
abbrev pub Joined : ℕ → List Merge → Type 0
Joined n [] = Unit {0}
Joined n (m ∷ merges) = (m.0 < n) × (m.1 < n) × (same_class merges m.0 m.1 ≡ false) × Joined n merges
