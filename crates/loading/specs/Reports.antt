-- What there is to say of an image, and the six numbers under which callers know it.
use Rattle.std.specs.Prelude.{ℕ, cond, List, [], ◌∷◌, ◌++◌, length, Ok, Err, Result, nat_lt, codes, decimal}
use Rattle.tables.specs.Tables.{Tables, usage_of}
use Rattle.heaps.specs.RuleTests.{rule_number}
use Rattle.images.specs.declared.fault.LoadFault.{LoadFault}
use Rattle.images.specs.declared.fault.LoadFault.TheVariants.{BadShape, BadLayout, BrokenRule}
use Rattle.images.specs.Reading.{loaded}
use Rattle.tables.specs.declared.usage.Usage.{Usage}
use Rattle.loading.specs.declared.described.Refused.{Refused}
use Rattle.loading.specs.declared.described.Refused.TheVariants.{TooLong, Fault}

-- the cells, trail entries and choice points in use, or the fault
abbrev pub of_load : Result Tables LoadFault → Result Usage Refused
of_load (Ok t) = Ok (usage_of t)
of_load (Err fault) = Err (Fault fault)

-- an image of more than 65,536 bytes is too long
abbrev pub described : List ℕ → Result Usage Refused
described image = cond (nat_lt 65536 (length image)) (Err TooLong) (of_load (loaded image))

abbrev pub refused_with : ℕ → ℕ → ℕ → List ℕ
refused_with refusal rule line = refusal ∷ rule ∷ line ∷ 0 ∷ 0 ∷ 0 ∷ []

-- the refusals 10, 11 and 12, with the broken rule and the line; or the cells, trail entries and choice points in use
abbrev pub numbers_of : Result Usage Refused → List ℕ
numbers_of (Ok u) = 0 ∷ 0 ∷ 0 ∷ u.used ∷ u.entries ∷ u.points ∷ []
numbers_of (Err TooLong) = refused_with 10 0 0
numbers_of (Err (Fault (BadShape line))) = refused_with 10 0 line
numbers_of (Err (Fault (BadLayout line))) = refused_with 11 0 line
numbers_of (Err (Fault (BrokenRule rule line))) = refused_with 12 (rule_number rule) line

-- the six numbers of an image
abbrev pub reported : List ℕ → List ℕ
reported image = numbers_of (described image)

-- they are printed in decimal, with one space between
abbrev pub numbers_text : List ℕ → List ℕ
numbers_text [] = []
numbers_text (n ∷ []) = decimal n
numbers_text (n ∷ m ∷ ns) = decimal n ++ codes " " ++ numbers_text (m ∷ ns)
