-- Taking the next two argument cells from a stack of rows.
use Rattle.std.proofs.Common.{◌≡◌, ℕ, zero, suc, ◌+◌, ◌-◌, ◌<◌, List, [], ◌∷◌, length, sym, ap, ◌∙◌, subst, arith, Option, Some, None}
use Rattle.calls.specs.Unifying.{Pair, rows}
use Rattle.unifying.specs.Walking.{Draws, none_left, row_done, row_first}

pub draws_none : (ps qs : List Pair) → length ps ≡ 0 → length qs ≡ 0 → Draws ps None qs
draws_none [] [] e f = none_left
draws_none [] (q ∷ qs) e f = absurd (omega arith)
draws_none (p ∷ ps) qs e f = absurd (omega arith)

pub draws_done : (ps rest : List Pair) (i j k : ℕ) → ps ≡ rows i j k ∷ rest → k ≡ 0 → (o : Option (ℕ × ℕ)) (qs : List Pair) → Draws rest o qs → Draws ps o qs
draws_done ps rest i j k popped z o qs d = subst (λ (l : List Pair). Draws l o qs) (sym (popped ∙ ap (λ n. rows i j n ∷ rest) z)) (row_done d)

pub draws_first : (ps rest qs : List Pair) (i j k : ℕ) → ps ≡ rows i j k ∷ rest → 0 < k → qs ≡ rows (i + 1) (j + 1) (k - 1) ∷ rest → Draws ps (Some (i, j)) qs
draws_first ps rest qs i j zero popped h pushed = absurd (omega arith)
draws_first ps rest qs i j (suc k) popped h pushed =
    let a : i + 1 ≡ suc i = omega arith in
    let b : j + 1 ≡ suc j = omega arith in
    let c : suc k - 1 ≡ k = omega arith in
    subst (λ (l : List Pair). Draws l (Some (i, j)) qs) (sym popped)
    (subst (Draws (rows i j (suc k) ∷ rest) (Some (i, j))) (sym (pushed ∙ ap (λ n. rows n (j + 1) (suc k - 1) ∷ rest) a ∙ ap (λ n. rows (suc i) n (suc k - 1) ∷ rest) b ∙ ap (λ n. rows (suc i) (suc j) n ∷ rest) c)) row_first)
