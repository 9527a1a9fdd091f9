-- A part has one name, and a name one part.
use Rattle.std.proofs.Common.{◌≡◌, ℕ, cond, List, Some, Option, refl}
use Rattle.std.specs.Str.{bytes_eq}
use Rattle.std.proofs.lemmas.Slice.Eq.{bytes_eq-Decides}
use Rattle.lines.specs.declared.word.Part.{Part}
use Rattle.lines.specs.declared.word.Part.TheVariants as part
use Rattle.lines.specs.Words.{part_name, part_named}
use Rattle.lines.proofs.Options.{or_from, not_some}

pub part_named_lem : (p : Part) → part_named (part_name p) ≡ Some p
part_named_lem part.Heap = refl
part_named_lem part.Register = refl
part_named_lem part.Trail = refl
part_named_lem part.HeapTop = refl
part_named_lem part.TrailTop = refl
part_named_lem part.Saved = refl

pub part_name_lem : (w : List ℕ) (p : Part) → part_named w ≡ Some p → w ≡ part_name p
part_name_lem w =
    by part.Heap (by part.Register (by part.Trail (by part.HeapTop (by part.TrailTop (by part.Saved (λ p e. absurd (not_some e)))))))
  where
    by : (q : Part) {o : Option Part} → ((p : Part) → o ≡ Some p → w ≡ part_name p) → (p : Part) → cond (bytes_eq w (part_name q)) (Some q) o ≡ Some p → w ≡ part_name p
    by q {o} else = or_from (λ p. w ≡ part_name p) (bytes_eq w (part_name q)) q o (bytes_eq-Decides w (part_name q)).0 else
