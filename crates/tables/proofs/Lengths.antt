-- How long the lists are that a memory stands for: eight registers, eight saved ones in each choice point, at most 4,096 cells and entries, and at most 64 choice points.
use Rattle.std.proofs.Common.{◌≡◌, ℕ, ◌-◌, ◌<◌, ◌≤◌, map, reverse, length, get_or, replicate, refl, ap, ◌∙◌, ⊎_elim, arith}
use Rattle.std.proofs.lemmas.List.{length-map, length-take, get_or_default, get_or_past}
use Rattle.std.proofs.lemmas.Bool.{cases_lt}
use Rattle.cells.specs.Cells.{cell_of}
use Rattle.tables.specs.declared.memory.ChoicePoint.{ChoicePoint}
use Rattle.tables.specs.declared.memory.Memory.{Memory}
use Rattle.tables.specs.Stacks.{listed}
use Rattle.tables.specs.Tables.{Choice, used, no_choice, choice_at}
use Rattle.tables.specs.Views.{choice_of, tables_of}
use Rattle.tables.proofs.Views.{length_turned, turned_at}

pub used_fits : (m : Memory) → used (tables_of m) ≤ 4096
used_fits m = omega (arith, length-map (listed m.heap) cell_of, length-take m.heap.len m.heap.items, m.heap.fits)

pub trail_fits : (m : Memory) → length (tables_of m).trail ≤ 4096
trail_fits m = let f = m.trail.fits in let t = length-take m.trail.len m.trail.items in omega arith

pub depth_fits : (m : Memory) → length (tables_of m).choices ≤ 64
depth_fits m =
    let f = m.choices.fits in let t = length-take m.choices.len m.choices.items in
    let e = length_turned choice_of (listed m.choices) in omega arith

pub registers_eight : (m : Memory) → length (tables_of m).registers ≡ 8
registers_eight m = length-map m.registers cell_of ∙ m.eight

blank : ChoicePoint
blank = record { saved = replicate 8 0; heap_top = 0; trail_top = 0; eight = refl }

pub saved_eight : (m : Memory) (k : ℕ) → length (choice_at (tables_of m) k).saved ≡ 8
saved_eight m k =
    let points = listed m.choices in
    let place = length points - 1 - k in
    ⊎_elim
    (λ (inside : k < length points).
    let point = get_or points place blank in
    ap (λ (c : Choice). length c.saved)
    (turned_at choice_of points k no_choice point inside (λ e. get_or_default points place blank e (omega arith)))
    ∙ length-map point.saved cell_of ∙ point.eight)
    (λ (past : length points ≤ k).
    ap (λ (c : Choice). length c.saved)
    (get_or_past (reverse (map choice_of points)) k no_choice (omega (arith, length_turned choice_of points))))
    (cases_lt k (length points))
