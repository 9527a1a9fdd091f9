use Rattle.std.proofs.Common.{◌<◌, ◌≤◌, length, get_or, replicate, sym, ap, ◌∙◌, subst, arith}
use Rattle.heaps.proofs.InLaws.{in_at}
use Rattle.occurring.specs.Bytes.{Ones}
use Rattle.occurring.proofs.ByteLaws.{listed_inside, left_none}
use Rattle.occurring.proofs.visits.methods.clear_listed.Goals as goal

pub bounds-bytes-n : goal.bounds-bytes-n
bounds-bytes-n c =
    let cells = c.as_slice-n-items.result.now in
    let p = c.loop-n.n-index in
    let low : p < length cells = omega arith in
    let ones : Ones c.args.bytes.now cells = subst (Ones c.args.bytes.now) (sym c.as_slice-n-items.ensures) c.requires in
    let inside = listed_inside c.args.bytes.now cells ones (get_or cells p 0) (in_at cells p low) in
    omega (arith, inside, c.told-bytes)

pub returns : goal.returns
returns c =
    let cells = c.as_slice-n-items.result.now in
    let past : length cells ≤ c.loop-n.n-index = omega arith in
    left_none c.loop-n.n-index c.loop-n.bytes cells past c.loop-n.invariant.1 ∙ ap (λ n. replicate n 0) c.loop-n.invariant.0
