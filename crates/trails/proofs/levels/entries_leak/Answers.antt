use Rattle.std.proofs.Common.{rules, tests, arith, ◌∙◌, length, get_or, leb, take, length-take}
use Rattle.std.proofs.lemmas.List.{get_or-take}
use Rattle.tables.specs.Tables.{choice_at}
use Rattle.tables.specs.Views.{tables_of}
use Rattle.words.proofs.Ranges.{any_told}
use Rattle.trails.proofs.AnyOf.{any_listed}
use Rattle.trails.proofs.levels.entries_leak.Goals as goal

pub returns : goal.returns
returns c =
    let p = choice_at (tables_of c.args.memory.now) c.args.point in
    let trail = (tables_of c.args.memory.now).trail in
    let older = take p.trail_top trail in
    let long = length-take p.trail_top trail in
    any_told _ _ _ _ (λ i. leb p.heap_top (get_or older i 0)) 0 (length older) c.any.ensures.ran (omega arith) (omega (arith, c.trail_top.ensures, c.trailed.ensures))
    (λ x q k low high. grind (arith, tests, get_or-take)) (λ x q k. (search (rules, tests), λ low high. grind (arith, tests, get_or-take)))
    ∙ any_listed (leb p.heap_top) older 0
