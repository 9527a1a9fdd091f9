use Rattle.std.proofs.Common.{rules, tests, arith, sym, ◌∙◌, suc, ◌||◌, nat_le}
use Rattle.std.proofs.lemmas.Bool.{lt-ltb, le-leb, or_left}
use Rattle.heaps.proofs.RuleTestsBasics.{from_some}
use Rattle.tables.specs.Tables.{used}
use Rattle.tables.specs.Views.{tables_of}
use Rattle.heaps.specs.Leads.{heap_of, is_functor}
use Rattle.words.proofs.Ranges.{any_told}
use Rattle.words.proofs.arguments.any_lacking.Goals as goal

pub returns-then-others-arity : goal.returns-then-others-arity
returns-then-others-arity c =
    let t = tables_of c.args.memory.now in
    let past = or_left (nat_le (used t) (used t)) _ (le-leb (used t) (used t) (omega arith)) in
    lt-ltb _ _ c.if-others-arity.true
    ∙ sym (from_some (λ j. nat_le (used t) j || is_functor (heap_of t.heap j)) (suc c.args.i) c.args.arity (used t) (omega arith) (omega arith) past)

pub returns-else-others-arity : goal.returns-else-others-arity
returns-else-others-arity c =
    let t = tables_of c.args.memory.now in
    any_told _ _ _ _ (λ j. nat_le (used t) j || is_functor (heap_of t.heap j)) _ _ c.any.ensures.ran (omega arith) (omega arith)
    (λ x q k low high. search (rules, tests)) (λ x q k. (search (rules, tests), λ low high. search (rules, tests)))
