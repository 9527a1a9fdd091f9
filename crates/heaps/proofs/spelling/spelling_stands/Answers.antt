use Rattle.std.proofs.Common.{refl}
use Rattle.heaps.proofs.SpellLaws.{spell_layer, spell_only, spell_more}
use Rattle.heaps.proofs.FrameLaws.{spell_frame}
use Rattle.heaps.proofs.EndLaws.{end_ends, spell_end, end_keeps, end_step, steps_within}
use Rattle.heaps.proofs.spelling.spelling_stands.Goals as goal

pub returns : goal.returns
returns c = record {
  layered = spell_layer;
  only = spell_only;
  more = spell_more;
  frame = spell_frame;
  ends = end_ends;
  end_spells = spell_end;
  end_keeps = end_keeps;
  step = end_step;
  steps = steps_within;
  answer = refl;
}
