use Rattle.std.proofs.Common.{arith, rules, tests}
use Rattle.std.proofs.lemmas.Bool.{not-true}
use Rattle.tables.specs.Tables.{used}
use Rattle.tables.specs.Views.{tables_of}
use Rattle.heaps.specs.Leads.{heap_of}
use Rattle.words.proofs.Ranges.{any_in_range}
use Rattle.cycles.specs.Spans.{NoneBelow}
use Rattle.cycles.specs.Works.{rank_of}
use Rattle.cycles.proofs.certificate.none_falls.Goals as goal

pub returns : goal.returns
returns c e i lt =
    let t = tables_of c.args.memory.now in
    let rank = rank_of c.args.walk.now in
    (any_in_range _ _ _ _ (λ k. Unit {0}) (λ k. NoneBelow (heap_of t.heap) (used t) rank k (rank k)) c.any.ensures.ran
    (λ x q k. tt) (λ x q k. search (rules, tests))).1 (not-true _ e) i (omega arith) (omega (arith, c.used.ensures))
