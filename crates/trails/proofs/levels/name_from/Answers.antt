use Rattle.std.proofs.Common.{ℕ, Bool, ap, arith, length-take}
use Rattle.std.proofs.Math.ListN.{drop_of_length-le}
use Rattle.std.proofs.lemmas.List.{take_all}
use Rattle.std.proofs.lemmas.Grind.{common_steps}
use Rattle.tables.specs.Views.{tables_of}
use Rattle.trails.proofs.Named.{names_from}
use Rattle.trails.proofs.levels.name_from.Goals as goal

pub loop-j-init : goal.loop-j-init
loop-j-init g c k lt = let e = ap (λ (s : ℕ → Bool). s k) c.clear.ensures in grind (arith, common_steps, drop_of_length-le, length-take)

pub loop-j-preserved : goal.loop-j-preserved
loop-j-preserved g c k lt =
    let more = names_from (g.M.Marks.has c.loop-j.undone) (tables_of c.args.memory.now).trail c.args.start c.loop-j.j (omega arith) (omega arith) c.loop-j.invariant k lt in
    let grown = ap (λ (u : ℕ → Bool). u k) c.mark.ensures in cc

pub returns : goal.returns
returns g c k lt = let e = c.loop-j.invariant k lt in grind (arith, common_steps, take_all)
