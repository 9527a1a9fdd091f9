use Rattle.images.proofs.LoadedRules.{loaded_is_text}
use Rattle.images.proofs.LoadedTexts.{text_one}
use Rattle.loading.proofs.checked.load.Goals as goal

pub returns-in_err-memory-clause-text : goal.returns-in_err-memory-clause-text
returns-in_err-memory-clause-text c = loaded_is_text

pub returns-in_err-memory-clause-one : goal.returns-in_err-memory-clause-one
returns-in_err-memory-clause-one c = text_one

pub returns-in_err-check-clause-text : goal.returns-in_err-check-clause-text
returns-in_err-check-clause-text c = loaded_is_text

pub returns-in_err-check-clause-one : goal.returns-in_err-check-clause-one
returns-in_err-check-clause-one c = text_one

pub returns-clause-text : goal.returns-clause-text
returns-clause-text c = loaded_is_text

pub returns-clause-one : goal.returns-clause-one
returns-clause-one c = text_one
