use Rattle.std.proofs.Common.{refl}
use Rattle.heaps.proofs.LastLaws.{last_push_choice, last_bind, last_set_register, last_more}
use Rattle.heaps.proofs.CutLaws.{back_back, undo_keep_choices}
use Rattle.heaps.proofs.UndoRules.{retry_last, stands_last, stands_retry, stands_undo}
use Rattle.heaps.proofs.levels.levels_stand.Goals as goal

pub returns : goal.returns
returns c = record {
  last = stands_last;
  retry = stands_retry;
  undo = stands_undo;
  opened = last_push_choice;
  again = retry_last;
  older = back_back;
  kept = λ t k j r p q. undo_keep_choices t k j r.tops p q;
  bound = λ t x w r some free. last_bind t r.tops some x w free;
  register = λ t r w some. last_set_register t some r w;
  added = λ t cells r some. last_more t r.tops some cells;
  answer = refl;
}
