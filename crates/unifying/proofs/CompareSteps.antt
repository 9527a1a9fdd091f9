-- Comparing is a walk with merges: what its rules are, and how two words compare that do not both end at structures.
use Rattle.std.proofs.Common.{◌≡◌, Bool, true, false, List, ◌∷◌, sym, ap, ◌∙◌, arith}
use Rattle.cells.specs.declared.cell.Cell.{Cell}
use Rattle.tables.specs.Tables.{Tables}
use Rattle.heaps.specs.Ends.{end}
use Rattle.calls.specs.Unifying.{Pair, words}
use Rattle.classes.specs.Merges.{Merge}
use Rattle.unifying.specs.Merging.{both_pointers, SameRun, no_more, one_more, skipped, merged, clashed, alike, differing}
use Rattle.unifying.specs.Walking.{Walk, Advanced}

pub comparing : Walk Bool SameRun false
comparing = record {
  empty = λ t ms i j ps r x. no_more x;
  row = λ t ms i j k ps r x. one_more x;
  skip = λ t ms a b p q ps r ea eb s x. skipped p q ea eb s x;
  join = λ t ms a b p q ps r ea eb s f x. merged p q ea eb s f x;
  clash = λ t ms a b p q ps ea eb s f. clashed p q ea eb s f;
}

module _ (t : Tables) (ms : List Merge) (ps : List Pair) (a b c d : Cell) (ea : c ≡ end t a) (eb : d ≡ end t b) where
  -- nothing new is to be compared
  stays : (same : Bool) → (same ≡ true → (r : Bool) → SameRun t ms ps r → SameRun t ms (words a b ∷ ps) r) → (same ≡ false → SameRun t ms (words a b ∷ ps) false)
      → Advanced Bool SameRun false t t a b ms ps ms ps same
  stays same on off = record { on = on; off = off; keeps = λ k. k; room = omega arith; lighter = omega arith }

  pub words_compared : both_pointers c d ≡ false → (same : Bool) → (same ≡ true → c ≡ d) → (same ≡ false → c ≡ d → ⊥) → Advanced Bool SameRun false t t a b ms ps ms ps same
  words_compared apart same equal other = stays same (λ e r w. alike two (sym ea ∙ equal e ∙ eb) w) (λ e. differing two (λ s. other e (ea ∙ s ∙ sym eb)))
    where
      two : both_pointers (end t a) (end t b) ≡ false
      two = ap (λ (x : Cell). both_pointers x (end t b)) (sym ea) ∙ ap (both_pointers c) (sym eb) ∙ apart
