use Rattle.std.proofs.Common.{◌≡◌, ◌+◌, [], length, ap, ◌∙◌, subst, ⊎_elim, arith, length-append}
use Rattle.std.proofs.lemmas.Bool.{cases_lt, false≢true}
use Rattle.tables.specs.Stacks.{listed}
use Rattle.tables.proofs.Views.{length_turned, turned_push}
use Rattle.heaps.specs.Lists.{Each}
use Rattle.unifying.specs.Frames.{rows_of, pairs}
use Rattle.unifying.specs.Walking.{Inside}
use Rattle.unifying.proofs.Drawing.{draws_none, draws_done, draws_first}
use Rattle.unifying.proofs.frames.Frames.next.Goals as goal

pub returns-then-frame-gt0 : goal.returns-then-frame-gt0
returns-then-frame-gt0 c =
    let f = c.in-Some.frame in
    let popped = turned_push rows_of (listed c.pop.new.self) _ f c.in-Some.ensures.items in
    c.loop-frame.invariant.1 _ _ (draws_first (pairs c.loop-frame.self) _ (pairs c.push.new.self) f.left f.right f.count popped c.if-frame-gt0.true c.push.ensures)

pub loop-frame-preserved : goal.loop-frame-preserved
loop-frame-preserved c =
    let f = c.in-Some.frame in
    let popped = turned_push rows_of (listed c.pop.new.self) _ f c.in-Some.ensures.items in (
      (subst (Each Inside) popped c.loop-frame.invariant.0).1,
      λ o qs d. c.loop-frame.invariant.1 o qs (draws_done (pairs c.loop-frame.self) _ f.left f.right f.count popped (omega (arith, c.if-frame-gt0.false)) o qs d),
    )

pub returns : goal.returns
returns c =
    let e = c.in_default.ensures in
    let old = listed c.loop-frame.self.stack in
    let new = listed c.pop.new.self in
    let empty : length old ≡ 0 = ⊎_elim (λ some. absurd (false≢true (e.variant.1 some))) (λ none. omega arith) (cases_lt 0 (length old)) in
    let long : length old ≡ length new + 0 = ap length e.items ∙ length-append new [] in
    c.loop-frame.invariant.1 _ _ (draws_none _ _ (length_turned rows_of old ∙ empty) (omega (arith, length_turned rows_of new, long, empty)))
