use Rattle.std.proofs.Common.{◌≡◌, ◌-◌, ◌<◌, length, ap, ◌∙◌, arith}
use Rattle.std.proofs.lemmas.List.{length_push}
use Rattle.std.proofs.lemmas.Bool.{leb-true}
use Rattle.tables.specs.Tables.{Tables, choice_at, set_choice, with_tops}
use Rattle.tables.specs.Views.{tables_of}
use Rattle.lines.specs.declared.item.Item.TheVariants as item
use Rattle.images.specs.Reading.{added, tables_from}
use Rattle.images.proofs.Fillings.{next_trail_top, choices_held, trail_top_put, heap_top_low}
use Rattle.images.proofs.draft.Draft.put_trail_top.Goals as goal

pub heap_top-heap_top-requires : goal.heap_top-heap_top-requires
heap_top-heap_top-requires c =
    let l = c.requires.listing in
    let f = next_trail_top l c.args.i c.args.n c.requires.next in
    omega (arith, f.1, c.requires.holds.heap_tops_count, c.heap_tops.ensures.count)

pub set_tops-requires : goal.set_tops-requires
set_tops-requires c =
    let l = c.requires.listing in
    let k = c.heap_tops.result - 1 - c.args.i in
    let f = next_trail_top l c.args.i c.args.n c.requires.next in
    let inside : k < length l.heap_tops = omega (arith, f.1, c.requires.holds.heap_tops_count, c.heap_tops.ensures.count) in
    let same : c.heap_top-heap_top.result ≡ (choice_at (tables_from l) k).heap_top =
    c.heap_top-heap_top.ensures ∙ ap (λ t. (choice_at t k).heap_top) c.requires.holds.tables in (
      omega (arith, inside, c.requires.holds.heap_tops_count),
      (omega (arith, same, heap_top_low l k inside c.requires.holds.low), leb-true c.args.n 4096 c.requires.ranged),
    )

pub returns : goal.returns
returns c =
    λ l h next.
    let i = c.args.i in
    let n = c.args.n in
    let k = c.heap_tops.result - 1 - i in
    let topped : Tables → Tables = λ t. set_choice t k (with_tops (choice_at t k) (choice_at t k).heap_top n) in
    let m = tables_of c.args.self.now.memory in
    let tables =
    c.set_tops.ensures ∙ ap (λ top. set_choice m k (with_tops (choice_at m k) top n)) c.heap_top-heap_top.ensures
    ∙ ap topped h.tables ∙ trail_top_put l i n k next (ap (λ tops. tops - 1 - i) (c.heap_tops.ensures.count ∙ h.heap_tops_count)) in
    record {
      tables = tables;
      registers = h.registers;
      heap_tops_count = choices_held _ (added l (item.TrailTop i n)) tables;
      trail_tops_count = omega (arith, h.trail_tops_count, length_push l.trail_tops n);
      saved = h.saved;
      low = h.low;
    }
