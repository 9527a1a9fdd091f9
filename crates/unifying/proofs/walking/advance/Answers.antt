use Rattle.std.proofs.Common.{◌≡◌, Option, None, sym, ◌∙◌, subst, subst₂}
use Rattle.cells.specs.declared.cell.Cell.{Cell}
use Rattle.tables.specs.Tables.{Tables}
use Rattle.tables.specs.Views.{tables_of}
use Rattle.heaps.specs.Ends.{end}
use Rattle.heaps.specs.LevelLaws.{Stands, Keeps}
use Rattle.heaps.proofs.EndLaws.{end_ends}
use Rattle.unifying.specs.Bindings.{EndsChain}
use Rattle.unifying.specs.Merging.{MemoRun}
use Rattle.unifying.specs.Walking.{Advanced}
use Rattle.unifying.specs.Works.{merges_in, pairs_in, bound_in}
use Rattle.unifying.proofs.Bindings.{stepped_none}
use Rattle.unifying.proofs.WalkSteps.{structures_advanced}
use Rattle.unifying.proofs.UnifyWalk.{unifying, ends_advanced}
use Rattle.unifying.proofs.walking.advance.Goals as goal

-- the end of a word ends its chain

ends_chain : (t : Tables) → Stands t → (a c : Cell) → c ≡ end t a → EndsChain t c
ends_chain t st a c is n e = end_ends t st.0 a n (sym is ∙ e)

pub returns-in-Some : goal.returns-in-Some
returns-in-Some c =
    let t = tables_of c.args.memory.now in
    let is = c.in-Some.ensures in
    record {
      advanced =
          structures_advanced unifying t c.args.left c.args.right c.in-Some.p c.in-Some.q c.requires.stands c.requires.left c.requires.right
          (subst (Keeps t) is.0 c.end_of-a.ensures.keeps) (sym c.end_of-a.ensures.end ∙ is.0) (sym c.end_of-b.ensures.end ∙ is.1) c.meet_structures.ensures;
      stepped = stepped_none t (bound_in c.args.work.now) c.requires.stands c.requires.noted;
    }

pub meet_ends-requires : goal.meet_ends-requires
meet_ends-requires c =
    let t = tables_of c.args.memory.now in
    record {
      stands = c.requires.stands;
      left = c.end_of-a.ensures.keeps;
      right = c.end_of-b.ensures.keeps;
      left_end = ends_chain t c.requires.stands c.args.left c.end_of-a.result c.end_of-a.ensures.end;
      right_end = ends_chain t c.requires.stands c.args.right c.end_of-b.result c.end_of-b.ensures.end;
      apart = c.in-None.ensures;
      noted = c.requires.noted;
    }

pub returns-in-None : goal.returns-in-None
returns-in-None c =
    let t = tables_of c.args.memory.now in
    let u = tables_of c.meet_ends.new.memory in
    let kept = c.meet_ends.ensures.kept in
    record {
      advanced =
          subst₂ (λ ms ps. Advanced (Option Tables) MemoRun None t u c.args.left c.args.right (merges_in c.args.work.now) (pairs_in c.args.work.now) ms ps c.meet_ends.result)
          (sym kept.0) (sym kept.1)
          (ends_advanced t u c.args.left c.args.right c.end_of-a.result c.end_of-b.result c.end_of-a.ensures.end c.end_of-b.ensures.end
          c.in-None.ensures c.meet_ends.ensures.stepped.keeps (merges_in c.args.work.now) (pairs_in c.args.work.now) c.meet_ends.ensures.met);
      stepped = c.meet_ends.ensures.stepped;
    }
