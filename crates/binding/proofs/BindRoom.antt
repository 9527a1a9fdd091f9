-- Where a binding joins the trail, the trail has room.
use Rattle.std.proofs.Common.{◌≡◌, ℕ, ◌+◌, ◌<◌, ◌≤◌, Bool, true, cond, [], ◌∷◌, ◌++◌, length, ap, ◌∙◌, arith}
use Rattle.std.proofs.lemmas.List.{length_push}
use Rattle.cells.specs.declared.cell.Cell.{Cell}
use Rattle.cells.specs.Cells.{in_range}
use Rattle.tables.specs.Tables.{Tables}
use Rattle.heaps.specs.Binding.{trailed}
use Rattle.heaps.specs.SpellingLaws.{Bindable}
use Rattle.heaps.specs.LevelLaws.{Stands}
use Rattle.heaps.proofs.BindRules.{fits_bind}

pub trail_room : (t : Tables) (x : ℕ) (w : Cell) → Stands t → Bindable t x w → in_range w ≡ true → trailed t.choices x ≡ true → length t.trail < 4096
trail_room t x w stands b ranged joins =
    let long : length (cond (trailed t.choices x) (t.trail ++ (x ∷ [])) t.trail) ≤ 4096 = (fits_bind t x w stands.0 stands.1 b ranged).entries in
    let is : length (cond (trailed t.choices x) (t.trail ++ (x ∷ [])) t.trail) ≡ length t.trail + 1 =
    ap (λ (c : Bool). length (cond c (t.trail ++ (x ∷ [])) t.trail)) joins ∙ length_push t.trail x in
    omega arith
