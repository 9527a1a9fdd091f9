use Rattle.std.proofs.Common.{◌≡◌, ℕ, true, false, get_or, subst, rules, tests}
use Rattle.std.proofs.lemmas.Iterator.{IsFirst-from_position, YieldsList-from_slice}
use Rattle.cells.specs.declared.cell.Cell.TheVariants.{Atom}
use Rattle.tables.specs.Tables.{used}
use Rattle.tables.specs.Views.{tables_of}
use Rattle.tables.proofs.Lengths.{registers_eight}
use Rattle.heaps.specs.Leads.{heap_of}
use Rattle.heaps.specs.RuleTests.{stray_word, lowest_from}
use Rattle.checking.proofs.FoundLines.{listed_lowest, part_line, part_then}
use Rattle.checking.proofs.register_rule.first_stray_register.Goals as goal

pub returns : goal.returns
returns c =
    let m = c.args.memory.now in
    let t = tables_of m in
    let p = stray_word (heap_of t.heap) (used t) in
    part_then
    (part_line _ _
    (subst (λ (n : ℕ). c.position-register.result ≡ lowest_from 0 n (λ r. p (get_or t.registers r (Atom 0)))) (registers_eight m)
    (listed_lowest p t.registers (Atom 0) c.position-register.result
    (IsFirst-from_position _ _ c.position-register.result (λ x. p x ≡ true) (λ x. p x ≡ false) c.position-register.ensures.ran
    (YieldsList-from_slice t.registers cc) (λ x q k. search (rules, tests)) (λ x q k. search (rules, tests)))))
    c.register_line.ensures c.on_line.ensures)
    c.or_else.ensures (λ h. search (rules, tests))
