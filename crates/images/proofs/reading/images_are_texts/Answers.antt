use Rattle.std.proofs.Common.{refl}
use Rattle.images.proofs.LinesBack.{line_is_text}
use Rattle.images.proofs.TextRead.{read_text}
use Rattle.images.proofs.LoadedRules.{loaded_is_text}
use Rattle.images.proofs.LoadedTexts.{text_one}
use Rattle.images.proofs.reading.images_are_texts.Goals as goal

pub returns : goal.returns
returns c = record { line = line_is_text; read = read_text; loaded = loaded_is_text; one = text_one; answer = refl }
