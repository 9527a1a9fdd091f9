use Rattle.std.proofs.Common.{rules}
use Rattle.replaying.proofs.TextsBack.{request_is_text, load_is_text}
use Rattle.replaying.proofs.parsing.parse.Goals as goal

pub returns-then-is_note : goal.returns-then-is_note
returns-then-is_note c = record { entry = search rules; text = request_is_text; load = load_is_text }

pub returns-else-is_note : goal.returns-else-is_note
returns-else-is_note c = record { entry = search rules; text = request_is_text; load = load_is_text }
