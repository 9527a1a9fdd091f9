use Rattle.std.proofs.Common.{ap, ◌∙◌, arith}
use Rattle.std.proofs.lemmas.Bool.{leb-true}
use Rattle.tables.specs.Tables.{Tables, choice_at, set_choice, push_choice, with_tops}
use Rattle.lines.specs.declared.item.Item.TheVariants as item
use Rattle.images.specs.Reading.{added}
use Rattle.images.proofs.Fillings.{next_heap_top, choices_held, heap_top_put, low_push}
use Rattle.images.proofs.draft.Draft.put_heap_top.Goals as goal

pub push_choice-requires : goal.push_choice-requires
push_choice-requires c =
    let l = c.requires.listing in
    let f = next_heap_top l c.args.i c.args.n c.requires.next in
    omega (arith, f.0, f.1, c.requires.holds.heap_tops_count)

pub returns : goal.returns
returns c =
    λ l h next.
    let i = c.args.i in
    let n = c.args.n in
    let topped : Tables → Tables = λ t. set_choice t 0 (with_tops (choice_at t 0) n 0) in
    let tables = c.set_tops.ensures ∙ ap topped (c.push_choice.ensures ∙ ap push_choice h.tables) ∙ heap_top_put l i n next in
    record {
      tables = tables;
      registers = h.registers;
      heap_tops_count = choices_held _ (added l (item.HeapTop i n)) tables;
      trail_tops_count = h.trail_tops_count;
      saved = h.saved;
      low = low_push l.heap_tops n (leb-true n 4096 c.requires.ranged) h.low;
    }
