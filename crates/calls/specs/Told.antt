-- A Rust result as an answer.
use Rattle.std.specs.Prelude.{Bool, Ok, Err, Result}
use Rattle.cells.specs.declared.refusal.Refusal.{Refusal}
use Rattle.cells.specs.Answers.{verdict}
use Rattle.calls.specs.declared.Answer.{Answer}
use Rattle.calls.specs.declared.Answer.TheVariants.{Nothing, Refused, Tells}

-- `say` tells an accepted call's value
abbrev pub told : {A : Type 0} → (A → Answer) → Result A Refusal → Answer
told say (Ok a) = say a
told say (Err why) = Refused why

-- a call with nothing to tell
abbrev pub nothing : {A : Type 0} → A → Answer
nothing a = Nothing

-- the answer of same and unify
abbrev pub agrees : Bool → Answer
agrees b = Tells (verdict b)
