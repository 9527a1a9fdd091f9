use Rattle.std.proofs.Common.{◌≡◌, suc, Err, sym, ap, ◌∙◌, subst, add-one, arith}
use Rattle.std.proofs.lemmas.Result.{err_from_is_err_and}
use Rattle.lines.specs.Lines.{split}
use Rattle.images.specs.Reading.{added, nothing, read_lines, read_head, viewed}
use Rattle.lines.specs.Readers.{rest, Gives, Hands}
use Rattle.images.proofs.ImageReading.{head_good, head_bad, line_good, line_bad}
use Rattle.images.proofs.reading.read.Goals as goal

pub returns-in_err-head : goal.returns-in_err-head
returns-in_err-head c =
    let r = c.new-reader.result in
    let s = c.next_line.new.self in
    let line = c.in_ok-first.first in
    let g : Gives r s line = subst (Hands r s) c.in_ok-first.ensures.ok_part c.in_ok-next_line.ensures in
    let p = err_from_is_err_and c.from_residual-in_err-head.result c.from_residual-in_err-head.ensures.1 in
    ap viewed p.1 ∙ ap Err p.2
    ∙ sym (ap (λ bytes. read_head (split 10 bytes)) (sym c.new-reader.ensures.0)
    ∙ head_bad (rest r) line.text.now (rest s) g.line line.number _ (g.number ∙ c.new-reader.ensures.1) c.in_err-head.ensures)

pub loop-line-init : goal.loop-line-init
loop-line-init c =
    let r = c.new-reader.result in
    let s = c.next_line.new.self in
    let line = c.in_ok-first.first in
    let g : Gives r s line = subst (Hands r s) c.in_ok-first.ensures.ok_part c.in_ok-next_line.ensures in
    let one = c.new-reader.ensures.1 in
    let two : s.next ≡ 2 = omega (arith, g.next, one) in (
      nothing,
      c.new-draft.ensures,
      ap (λ bytes. read_head (split 10 bytes)) (sym c.new-reader.ensures.0)
          ∙ head_good (rest r) line.text.now (rest s) g.line line.number (g.number ∙ one) c.in_ok-head.ensures
          ∙ ap (λ n. read_lines nothing n (split 10 (rest s))) (sym two),
    )

pub loop-line-preserved : goal.loop-line-preserved
loop-line-preserved c =
    let r = c.loop-line.reader in
    let s = c.next_line-in-loop-line.new.self in
    let line = c.in-Some.line in
    let g : Gives r s line = subst (Hands r s) c.in-Some.is c.in_ok-line.ensures in
    let inv = c.loop-line.invariant in
    let l = inv.0 in
    let t = c.in_ok-add.ensures l inv.1 in (
      added l t.item,
      t.holds,
      inv.2 ∙ ap (λ n. read_lines l n (split 10 (rest r))) (sym g.number)
          ∙ line_good (rest r) line.text.now (rest s) g.line _ l line.number t
          ∙ ap (λ n. read_lines (added l t.item) n (split 10 (rest s))) (sym (g.next ∙ add-one r.next ∙ ap suc (sym g.number))),
    )

pub returns-in_err-add : goal.returns-in_err-add
returns-in_err-add c =
    let r = c.loop-line.reader in
    let s = c.next_line-in-loop-line.new.self in
    let line = c.in-Some.line in
    let g : Gives r s line = subst (Hands r s) c.in-Some.is c.in_ok-line.ensures in
    let inv = c.loop-line.invariant in
    let l = inv.0 in
    let p = err_from_is_err_and c.from_residual-in_err-add.result c.from_residual-in_err-add.ensures.1 in
    ap viewed p.1 ∙ ap Err p.2
    ∙ sym (inv.2 ∙ ap (λ n. read_lines l n (split 10 (rest r))) (sym g.number)
    ∙ line_bad (rest r) line.text.now (rest s) g.line l line.number _ (c.in_err-add.ensures l inv.1))
