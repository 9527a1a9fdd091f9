use Rattle.std.proofs.Common.{refl}
use Rattle.heaps.proofs.SetUpRules.{stands_set_up}
use Rattle.heaps.proofs.RegisterRules.{stands_set_register}
use Rattle.heaps.proofs.ChoiceRules.{stands_push_choice, stands_keep_choices}
use Rattle.heaps.proofs.NewRules.{stands_new_variable, stands_new_structure}
use Rattle.heaps.proofs.GrowRules.{keeps_more}
use Rattle.heaps.proofs.KeptWords.{keeps_register, keeps_saved, keeps_argument}
use Rattle.heaps.proofs.levels.changes_keep_rules.Goals as goal

pub returns : goal.returns
returns c = record {
  empty = stands_set_up;
  register = stands_set_register;
  opened = stands_push_choice;
  kept = stands_keep_choices;
  variable = stands_new_variable;
  structure = stands_new_structure;
  word = keeps_more;
  copied = keeps_register;
  saved = keeps_saved;
  argument = keeps_argument;
  answer = refl;
}
