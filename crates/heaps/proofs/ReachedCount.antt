-- The reached cells are at most the cells in use, and a set of exactly the reached cells has as many members.
use Rattle.std.proofs.Common.{◌≡◌, ℕ, ◌+◌, ◌-◌, ◌≤◌, Bool, true, false, ◌↔◌, sym, refl, ap, ◌∙◌, arith}
use Rattle.tables.specs.Tables.{used}
use Rattle.marks.specs.Sets.{count_below}
use Rattle.heaps.specs.Reached.{Reached, is_reached}
use Rattle.heaps.specs.ReachedLaws.{CountAtMost, CountOfSet}
use Rattle.heaps.proofs.CountLaws.{count_at_most, count_same, count_past}
use Rattle.heaps.proofs.ReachedUsed.{reached_used}
use Rattle.heaps.proofs.ReachedDecided.{reached_decided}

pub reached_at_most : CountAtMost
reached_at_most t = count_at_most (is_reached t) (used t)

-- tests that say true of the same are equal
same_test : {P : Type 0} (a b : Bool) → (a ≡ true) ↔ P → (b ≡ true) ↔ P → a ≡ b
same_test true b f g = sym (g.1 (f.0 refl))
same_test false true f g = f.1 (g.0 refl)
same_test false false f g = refl

pub count_of_set : CountOfSet
count_of_set t r s exact n le =
    let all : used t + (n - used t) ≡ n = omega arith in
    ap (count_below s) (sym all)
    ∙ count_past s (used t) (n - used t) out
    ∙ count_same s (is_reached t) (used t) (λ k lt. same_test (s k) (is_reached t k) (exact k) (reached_decided t r k))
  where
    out_by : (k : ℕ) → used t ≤ k → (b : Bool) → (b ≡ true → Reached t k) → b ≡ false
    out_by k above true f = let lt = reached_used t r k (f refl) in absurd (omega arith)
    out_by k above false f = refl

    out : (k : ℕ) → used t ≤ k → s k ≡ false
    out k above = out_by k above (s k) (exact k).0
