-- Terms and rows of terms that differ only by the names of their variables.
use Rattle.std.specs.Prelude.{◌≡◌, ℕ}
use Rattle.terms.specs.Terms.{Sort, Tree, var, apply}

abbrev pub rename : {s : Sort} → (ℕ → ℕ) → Tree s → Tree s
rename f t = apply (λ n. var (f n)) t

-- One renaming leads there and one leads back, so each is one-to-one on the variables that stand in its tree.
pub record Alike {s : Sort} (t u : Tree s) : Type 0 where
  pub to : ℕ → ℕ
  pub from : ℕ → ℕ
  pub there : rename to t ≡ u
  pub back : rename from u ≡ t
