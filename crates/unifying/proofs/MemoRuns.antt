-- Unifying with merges has the result of unifying without. If the words have no unifier both say no, since a run to tables u
-- would leave one; if they have one, the steps of both come to the same tables.
use Rattle.std.proofs.Common.{◌≡◌, List, [], ◌∷◌, sym, refl, ap, ◌∙◌, Option, Some, None}
use Rattle.tables.specs.Tables.{Tables}
use Rattle.terms.specs.Terms.{apply}
use Rattle.heaps.specs.Spelling.{spell}
use Rattle.calls.specs.Unifying.{words, unify_words}
use Rattle.calls.specs.UnifyLaws.{MadeEqual}
use Rattle.calls.proofs.UnifyMostGeneral.{unify_iso}
use Rattle.classes.specs.Merges.{Merge}
use Rattle.unifying.specs.Merging.{MemoRun, finished}
use Rattle.unifying.specs.Laws.{MemoRight}
use Rattle.unifying.proofs.Bisimulation.{run_solves}
use Rattle.unifying.proofs.TextbookSteps.{steps_solve}
use Rattle.unifying.proofs.Lockstep.{words_did}

-- with nothing to do the result is the tables
ended : {t : Tables} {merges : List Merge} {r : Option Tables} → MemoRun t merges [] r → r ≡ Some t
ended finished = refl

pub memo_right : MemoRight
memo_right t a b r st ka kb w = by (unify_words t a b) refl (unify_iso t a b st ka kb) r w
  where
    by : (o : Option Tables) → unify_words t a b ≡ o → MadeEqual t a b o → (r : Option Tables) → MemoRun t [] (words a b ∷ []) r → r ≡ o
    by None e m None w = refl
    by None e m (Some u) w =
        let s = run_solves t a b u st ka kb w in
        absurd (m s.0.0 (sym (s.0.1 a) ∙ s.1 ∙ s.0.1 b))
    by (Some v) e m r w =
        let d = words_did (λ c. apply m.0 (spell t.heap c)) t a b r w st ka kb (m.0, λ c. refl) m.1.0 in
        ended d.rest ∙ ap Some (steps_solve d.steps refl _ v e)
