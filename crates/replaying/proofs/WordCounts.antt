-- A line of five words or more is no call.
use Rattle.std.proofs.Common.{◌≡◌, ℕ, ◌<◌, List, [], ◌∷◌, length, None, refl, arith}
use Rattle.lines.proofs.Splits.{split_some}
use Rattle.lines.specs.Lines.{words_of}
use Rattle.replaying.specs.Entries.{entry_in}

pub five_words : (w a b c rest : List ℕ) → None ≡ entry_in (w ∷ a ∷ b ∷ c ∷ words_of rest)
five_words w a b c rest = by (words_of rest) (split_some 32 rest)
  where
    by : (ws : List (List ℕ)) → 0 < length ws → None ≡ entry_in (w ∷ a ∷ b ∷ c ∷ ws)
    by [] some = absurd (let no : 0 < 0 = some in omega arith)
    by (d ∷ ds) some = refl
