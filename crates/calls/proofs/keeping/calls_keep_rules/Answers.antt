use Rattle.std.proofs.Common.{refl}
use Rattle.calls.proofs.KeepLaws.{whole_start, whole_tables, step_keeps, levels_kept, level_opened, level_retried, level_left, levels_cut, void_back}
use Rattle.calls.proofs.KeepRefused.{refused_unchanged}
use Rattle.calls.proofs.KeepSettled.{settled_kept}
use Rattle.calls.proofs.keeping.calls_keep_rules.Goals as goal

pub returns : goal.returns
returns c = record {
  start = whole_start;
  tables = whole_tables;
  keeps = step_keeps;
  levels = levels_kept;
  opened = level_opened;
  retried = level_retried;
  left = level_left;
  cut = levels_cut;
  refused = refused_unchanged;
  settled = settled_kept;
  back = void_back;
  answer = refl;
}
