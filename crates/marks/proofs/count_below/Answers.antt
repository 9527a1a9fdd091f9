use Rattle.std.proofs.Common.{rules}
use Rattle.marks.proofs.Counts.{count_none, count_more, count_cells}
use Rattle.marks.proofs.count_below.Goals as goal
use Rattle.marks.proofs.count_below.Goals.{then-marked, else-marked}

pub loop-k-init : goal.loop-k-init
loop-k-init g c = let h = count_none (g.M.Marks.has c.args.marks.now) in search (rules, h)

pub loop-k-preserved : goal.loop-k-preserved
loop-k-preserved g c =
    let h = count_more (g.M.Marks.has c.args.marks.now) c.loop-k.k in
    elim c.if-marked.branch [ then-marked w ↦ search (rules, h) | else-marked w ↦ search (rules, h) ]

pub returns : goal.returns
returns g c =
    let h = count_cells (g.M.Marks.has c.args.marks.now) (g.met.M.Marks.within c.args.marks.now) c.args.n in
    search (rules, h)
