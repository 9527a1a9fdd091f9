-- Counting members goes by one number at a time, and numbers that no cell has add nothing to the count.

use Rattle.std.proofs.Common.{◌≡◌, ℕ, zero, suc, ◌+◌, ◌-◌, ◌≤◌, min, Bool, false, cond, refl, ap, ◌∙◌, ⊎_elim, add-one, arith}
use Rattle.std.proofs.lemmas.Bool.{cases_lt}
use Rattle.marks.specs.Sets.{count_below}

module _ (s : ℕ → Bool) where
  pub count_none : count_below s 0 ≡ 0
  unfolding count_below
  count_none = refl

  pub count_more : (n : ℕ) → count_below s (n + 1) ≡ count_below s n + cond (s n) 1 0
  unfolding count_below
  count_more n = rw add-one

  module _ (within : (n : ℕ) → 4096 ≤ n → s n ≡ false) where
    count_past : (d : ℕ) → count_below s (4096 + d) ≡ count_below s 4096
    count_past zero = refl
    count_past (suc d) =
        let next : 4096 + suc d ≡ (4096 + d) + 1 = omega arith in
        let out : s (4096 + d) ≡ false = within (4096 + d) (omega arith) in
        let same : count_below s ((4096 + d) + 1) ≡ count_below s (4096 + d) =
        count_more (4096 + d) ∙ ap (λ b. count_below s (4096 + d) + cond b 1 0) out ∙ omega arith in
        ap (count_below s) next ∙ same ∙ count_past d

    pub count_cells : (n : ℕ) → count_below s (min n 4096) ≡ count_below s n
    count_cells n =
        ⊎_elim
        (λ lt. let e : min n 4096 ≡ n = omega arith in ap (count_below s) e)
        (λ le.
        let few : min n 4096 ≡ 4096 = omega arith in
        let more : 4096 + (n - 4096) ≡ n = omega arith in
        ap (count_below s) few ∙ cc (count_past (n - 4096), ap (count_below s) more))
        (cases_lt n 4096)
