use Rattle.std.proofs.Common.{Bool, [], ◌∷◌, sym, ap, ◌∙◌, subst}
use Rattle.tables.specs.Views.{tables_of}
use Rattle.calls.specs.Unifying.{words}
use Rattle.calls.proofs.UnifyMostGeneral.{unify_iso}
use Rattle.unifying.specs.Merging.{MemoRun}
use Rattle.binding.specs.Unbinding.{unbind_to}
use Rattle.unifying.specs.Unified.{outcome, Unified}
use Rattle.unifying.specs.Works.{bound_in}
use Rattle.unifying.proofs.UnifyWalk.{noted_used, walk_unified, walk_refused}
use Rattle.unifying.proofs.walking.unify.Goals as goal

pub unbind-requires : goal.unbind-requires
unbind-requires c =
    let s = c.walk-yes.ensures.stepped in
    record { fits = s.stands.1.cells; inside = noted_used (tables_of c.walk-yes.new.memory) (bound_in c.walk-yes.new.work) s.noted }

pub returns-then-not-yes : goal.returns-then-not-yes
returns-then-not-yes c =
    let t = tables_of c.args.memory.now in
    let u = tables_of c.walk-yes.new.memory in
    let bs = bound_in c.walk-yes.new.work in
    let run = subst (λ (b : Bool). MemoRun t [] (words c.args.left c.args.right ∷ []) (outcome b u)) c.if-not-yes.true c.walk-yes.ensures.run in
    record {
      unified =
          subst (Unified t c.args.left c.args.right (tables_of c.unbind.new.memory)) (sym c.if-not-yes.true)
          (walk_refused t u (tables_of c.unbind.new.memory) c.args.left c.args.right bs c.requires.stands c.requires.left c.requires.right run c.walk-yes.ensures.stepped
          (c.unbind.ensures.tables ∙ ap (unbind_to u bs) c.trailed-top.ensures));
      iso = unify_iso;
    }

pub returns-else-not-yes : goal.returns-else-not-yes
returns-else-not-yes c =
    let t = tables_of c.args.memory.now in
    let u = tables_of c.walk-yes.new.memory in
    let run = subst (λ (b : Bool). MemoRun t [] (words c.args.left c.args.right ∷ []) (outcome b u)) c.if-not-yes.false c.walk-yes.ensures.run in
    record {
      unified = subst (Unified t c.args.left c.args.right u) (sym c.if-not-yes.false) (walk_unified t u c.args.left c.args.right c.requires.stands c.requires.left c.requires.right run);
      iso = unify_iso;
    }
