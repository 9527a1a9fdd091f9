use Rattle.std.proofs.Common.{◌-◌, ◌/◌, ◌%◌, ap, ◌∙◌, arith}
use Rattle.std.proofs.lemmas.List.{length_push}
use Rattle.tables.specs.Tables.{choice_at, set_choice, with_saved}
use Rattle.lines.specs.declared.item.Item.TheVariants as item
use Rattle.images.specs.Reading.{added}
use Rattle.images.proofs.Fillings.{next_saved, choices_held, saved_put}
use Rattle.images.proofs.draft.Draft.put_saved.Goals as goal

pub set_saved-requires : goal.set_saved-requires
set_saved-requires c =
    let l = c.requires.listing in
    let f = next_saved l c.args.i c.args.cell c.requires.next in (
      omega (arith, f.1, c.requires.holds.heap_tops_count, c.heap_tops.ensures.count),
      (omega arith, c.requires.ranged),
    )

pub returns : goal.returns
returns c =
    λ l h next.
    let i = c.args.i in
    let cell = c.args.cell in
    let k = c.heap_tops.result - 1 - i / 8 in
    let tables =
    c.set_saved.ensures ∙ ap (λ t. set_choice t k (with_saved (choice_at t k) (i % 8) cell)) h.tables
    ∙ saved_put l i k cell next (ap (λ tops. tops - 1 - i / 8) (c.heap_tops.ensures.count ∙ h.heap_tops_count)) in
    record {
      tables = tables;
      registers = h.registers;
      heap_tops_count = choices_held _ (added l (item.Saved i cell)) tables;
      trail_tops_count = h.trail_tops_count;
      saved = omega (arith, h.saved, length_push l.saved cell);
      low = h.low;
    }
