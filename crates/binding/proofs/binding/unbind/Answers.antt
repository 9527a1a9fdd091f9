use Rattle.std.proofs.Common.{◌≡◌, ◌<◌, [], ◌∷◌, ◌++◌, reverse, ap, ◌∙◌, subst, length-set}
use Rattle.cells.specs.declared.cell.Cell.TheVariants.{Reference}
use Rattle.tables.specs.Stacks.{listed}
use Rattle.tables.specs.Tables.{Tables, used, with_heap}
use Rattle.tables.specs.Views.{tables_of}
use Rattle.heaps.specs.Lists.{Each}
use Rattle.heaps.specs.Levels.{unbind_all}
use Rattle.binding.proofs.UnbindLaws.{unbind_last, each_front}
use Rattle.binding.proofs.binding.unbind.Goals as goal

pub loop-at-preserved : goal.loop-at-preserved
loop-at-preserved c =
    let t = tables_of c.loop-at.memory in
    let ys = listed c.pop.new.self in
    let x = c.in-Some.at in
    let popped : listed c.loop-at.bound ≡ ys ++ (x ∷ []) = c.in-Some.ensures.items in (
      ap (λ (u : Tables). with_heap u (unbind_all u.heap (reverse ys))) c.set_cell.ensures
          ∙ ap (with_heap t) (unbind_last t.heap (listed c.loop-at.bound) ys x popped)
          ∙ c.loop-at.invariant.0,
      ap used c.set_cell.ensures ∙ length-set t.heap x (Reference x) ∙ c.loop-at.invariant.1,
      each_front _ ys (x ∷ []) (subst (Each (λ k. k < used (tables_of c.args.memory.now))) popped c.loop-at.invariant.2),
    )
