use Rattle.std.proofs.Common.{◌≡◌, ◌≢◌, sym, ap, ◌∙◌, arith, rules}
use Rattle.tables.specs.Views.{tables_of}
use Rattle.heaps.specs.Spelling.{arity_of}
use Rattle.unifying.specs.Walking.{skips}
use Rattle.classes.specs.Classes.{merges}
use Rattle.unifying.specs.Frames.{pairs}
use Rattle.classes.proofs.ClassTables.{merges_few}
use Rattle.unifying.proofs.Functors.{functors_clash, functors_join}
use Rattle.unifying.proofs.structures.meet_structures.Goals as goal

pub returns-then-same_class : goal.returns-then-same_class
returns-then-same_class c = skips (sym c.if-same_class.ensures)

pub returns-then-ne : goal.returns-then-ne
returns-then-ne c =
    let other : c.cell-functor.result ≢ c.cell.result = search rules in
    functors_clash (tables_of c.args.memory.now) c.args.p c.args.q c.requires.left c.requires.right (merges c.args.classes.now) (pairs c.args.frames.now)
    (sym c.if-same_class.ensures) (λ s. other (c.cell-functor.ensures ∙ s ∙ sym c.cell.ensures))

pub push-requires : goal.push-requires
push-requires c = omega (arith, merges_few c.args.classes.now, c.requires.room)

pub returns : goal.returns
returns c =
    let same : c.cell-functor.result ≡ c.cell.result = search rules in
    functors_join (tables_of c.args.memory.now) c.args.p c.args.q c.requires.left c.requires.right (merges c.args.classes.now) (pairs c.args.frames.now)
    (sym c.if-same_class.ensures) (merges c.merge.new.self) (pairs c.push.new.self) c.arity_of.result
    (sym c.cell-functor.ensures ∙ same ∙ c.cell.ensures) c.merge.ensures (c.arity_of.ensures ∙ ap arity_of c.cell-functor.ensures) c.push.ensures
