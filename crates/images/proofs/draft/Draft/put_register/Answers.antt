use Rattle.std.proofs.Common.{ap, ◌∙◌, arith}
use Rattle.std.proofs.lemmas.List.{length_push}
use Rattle.tables.specs.Tables.{set_register}
use Rattle.lines.specs.declared.item.Item.TheVariants as item
use Rattle.images.specs.Reading.{added}
use Rattle.images.proofs.Fillings.{choices_held, register_put}
use Rattle.images.proofs.draft.Draft.put_register.Goals as goal

pub returns : goal.returns
returns c =
    λ l h next.
    let i = c.args.i in
    let cell = c.args.cell in
    let tables = c.set_register.ensures ∙ ap (λ t. set_register t i cell) h.tables ∙ register_put l i cell next in
    record {
      tables = tables;
      registers = omega (arith, h.registers, length_push l.registers cell);
      heap_tops_count = choices_held _ (added l (item.Register i cell)) tables;
      trail_tops_count = h.trail_tops_count;
      saved = h.saved;
      low = h.low;
    }
