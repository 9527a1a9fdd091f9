use Rattle.std.proofs.Common.{◌+◌, rules, tests}
use Rattle.std.proofs.lemmas.Iterator.{first_from_Range}
use Rattle.tables.specs.Tables.{used}
use Rattle.tables.specs.Views.{tables_of}
use Rattle.heaps.specs.Leads.{heap_of}
use Rattle.cycles.specs.Spans.{NoneBelow}
use Rattle.cycles.specs.Works.{rank_of}
use Rattle.cycles.proofs.RankLaws.{first_rises}
use Rattle.cycles.proofs.certificate.first_level.Goals as goal

pub returns : goal.returns
returns c =
    let t = tables_of c.args.memory.now in
    let rank = rank_of c.args.walk.now in
    first_rises (heap_of t.heap) (used t) rank c.used.result c.used.ensures c.find.result
    (first_from_Range _ _ _ _ (λ k. Unit {0}) (λ k. NoneBelow (heap_of t.heap) (used t) rank k (rank k + 1)) c.find.ensures.ran
    (λ x q k. tt) (λ x q k. search (rules, tests)))
