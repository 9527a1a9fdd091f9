use Rattle.std.proofs.Common.{◌≡◌, ◌+◌, ◌-◌, ◌*◌, ◌^◌, ◌≤◌, true, get_or, sym, ◌∙◌, arith, rules, tests}
use Rattle.lines.specs.Words.{no_leading_zero}
use Rattle.lines.proofs.NumbersRead.{too_large, number_all}
use Rattle.lines.proofs.word.natural.Goals as goal

pub returns-in_err-checked_mul : goal.returns-in_err-checked_mul
returns-in_err-checked_mul c =
    let w = c.args.word.now in
    let inv = c.loop-byte.invariant in
    let much : 2 ^ 64 ≤ c.loop-byte.n * 10 = search (rules, tests) in
    c.from_residual-in_err-checked_mul.ensures
    ∙ too_large w c.loop-byte.n c.loop-byte.byte-index inv.0 inv.1 c.loop-byte-test.true (omega (arith, much))

pub returns-in_err-n : goal.returns-in_err-n
returns-in_err-n c =
    let w = c.args.word.now in
    let inv = c.loop-byte.invariant in
    let much : 2 ^ 64 ≤ 10 * c.loop-byte.n + (get_or w c.loop-byte.byte-index 0 - 48) = search (rules, tests) in
    c.from_residual-in_err-n.ensures ∙ too_large w c.loop-byte.n c.loop-byte.byte-index inv.0 inv.1 c.loop-byte-test.true much

pub returns : goal.returns
returns c =
    let w = c.args.word.now in
    let inv = c.loop-byte.invariant in
    let plain : no_leading_zero w ≡ true = sym c.no_leading_zero.ensures ∙ c.if-not-no_leading_zero.false in
    number_all w c.loop-byte.n c.loop-byte.byte-index inv.0 inv.1 (search rules) inv.2 plain
