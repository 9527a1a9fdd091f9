-- The words of a line as tokens.
use Rattle.std.specs.Prelude.{◌≡◌, ℕ, true, List, [], ◌∷◌}
use Rattle.lines.specs.declared.line.Words.{Words}
use Rattle.lines.specs.Words.{Reads, word_shaped}

-- the tokens of four words, each of one to ten bytes
pub record Spread (t : Words) (ws : List (List ℕ)) : Type 0 where
  pub part : List ℕ
  pub index : List ℕ
  pub kind : List ℕ
  pub value : List ℕ
  pub words : ws ≡ part ∷ index ∷ kind ∷ value ∷ []
  pub reads_part : Reads t.part part × (word_shaped part ≡ true)
  pub reads_index : Reads t.index index × (word_shaped index ≡ true)
  pub reads_kind : Reads t.kind kind × (word_shaped kind ≡ true)
  pub reads_value : Reads t.value value × (word_shaped value ≡ true)
