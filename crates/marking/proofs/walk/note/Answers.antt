use Rattle.std.proofs.Common.{◌≡◌, false, sym, ◌∙◌, arith, rules}
use Rattle.marking.specs.Walks.{waiting}
use Rattle.marking.proofs.Counts.{count_le, count_with}
use Rattle.marking.proofs.Notes.{noted_one}
use Rattle.marks.specs.Sets.{with_cell}
use Rattle.marking.proofs.walk.note.Goals as goal

pub push-requires : goal.push-requires
push-requires g c =
    let s = g.M.Marks.has c.args.marks.now in
    let new : s c.args.n ≡ false = sym c.marked.ensures ∙ c.if-not-marked.true in
    (search rules, omega (arith, c.requires.room, count_with s c.args.n c.requires.cell new, count_le (with_cell s c.args.n) 4096))

pub returns-then-not-marked : goal.returns-then-not-marked
returns-then-not-marked g c =
    let s = g.M.Marks.has c.args.marks.now in
    let n = c.args.n in
    let new : s n ≡ false = sym c.marked.ensures ∙ c.if-not-marked.true in
    noted_one s (waiting c.args.pending.now) n c.requires.cell new (g.M.Marks.has c.mark.new.self) _ c.mark.ensures
    c.push.ensures
