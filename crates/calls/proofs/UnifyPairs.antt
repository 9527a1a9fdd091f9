-- The pairs still to be unified, and the goals that they spell: words that may stand in registers stay so under bindings,
-- and a substitution of what is spelled is the same substitution of the goals.
use Rattle.std.proofs.Common.{◌≡◌, ℕ, ◌+◌, List, [], ◌∷◌, sym, refl, ap, ◌∙◌, ap₂}
use mathlib.Core.Path.{fun_ext}
use Rattle.cells.specs.declared.cell.Cell.{Cell}
use Rattle.cells.specs.declared.cell.Cell.TheVariants.{Reference}
use Rattle.tables.specs.Tables.{Tables}
use Rattle.terms.specs.Terms.{Term, apply}
use Rattle.terms.specs.Unifiers.{Subst}
use Rattle.terms.specs.Robinson.{Goal, both, each, apply_goals}
use Rattle.heaps.specs.Lists.{Each}
use Rattle.heaps.specs.Spelling.{run}
use Rattle.heaps.specs.LevelLaws.{Keeps}
use Rattle.heaps.proofs.EachLaws.{each_map}
use Rattle.heaps.proofs.BindReads.{run_apply}
use Rattle.calls.specs.Pairs.{PairKeeps}
use Rattle.calls.specs.Unifying.{Pair, words, rows}

-- what a pair spells, where s is the spelling
abbrev pub goal_of : (Cell → Term) → Pair → Goal
goal_of s (words a b) = both (s a) (s b)
goal_of s (rows i j k) = each (run s i k) (run s j k)

abbrev pub goals_of : (Cell → Term) → List Pair → List Goal
goals_of s [] = []
goals_of s (p ∷ ps) = goal_of s p ∷ goals_of s ps

pub pairs_keep : (t u : Tables) → ((d : Cell) → Keeps t d → Keeps u d) → (ps : List Pair) → Each (PairKeeps t) ps → Each (PairKeeps u) ps
pairs_keep t u f ps v = each_map (PairKeeps t) (PairKeeps u) one ps v
  where
    one : (p : Pair) → PairKeeps t p → PairKeeps u p
    one (words a b) k = (f a k.0, f b k.1)
    one (rows i j n) k = λ m lt. (f (Reference (i + m)) (k m lt).0, f (Reference (j + m)) (k m lt).1)

pub goals_apply : (σ : Subst) (s q : Cell → Term) → ((d : Cell) → q d ≡ apply σ (s d)) → (ps : List Pair) → goals_of q ps ≡ apply_goals σ (goals_of s ps)
goals_apply σ s q f [] = refl
goals_apply σ s q f (words a b ∷ ps) = ap₂ ◌∷◌ (ap₂ both (f a) (f b)) (goals_apply σ s q f ps)
goals_apply σ s q f (rows i j k ∷ ps) = ap₂ ◌∷◌ (ap₂ each (one_run i) (one_run j)) (goals_apply σ s q f ps)
  where
    one_run : (n : ℕ) → run q n k ≡ apply σ (run s n k)
    one_run n = ap (λ (r : Cell → Term). run r n k) (fun_ext f) ∙ sym (run_apply σ s n k)
