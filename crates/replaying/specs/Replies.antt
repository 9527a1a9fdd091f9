-- The text of a reply.
use Rattle.std.specs.Prelude.{ℕ, ◌+◌, ◌*◌, List, ◌++◌, codes, decimal}
use Rattle.std.specs.Fmt.{signed_decimal}
use Rattle.cells.specs.declared.answer.Seen.{Seen}
use Rattle.cells.specs.declared.answer.Seen.TheVariants.{Variable, Atom, Integer, Structure}
use Rattle.cells.specs.declared.answer.Verdict.{Verdict}
use Rattle.cells.specs.declared.answer.Verdict.TheVariants.{No, Yes}
use Rattle.cells.specs.Refusals.{number_of}
use Rattle.heaps.specs.RuleTests.{rule_number}
use Rattle.calls.specs.declared.Answer.{Answer}
use Rattle.calls.specs.declared.Answer.TheVariants.{Nothing, Refused, Sees, Tells, Hands, Counts}
use Rattle.images.specs.declared.fault.LoadFault.{LoadFault}
use Rattle.images.specs.declared.fault.LoadFault.TheVariants.{BadShape, BadLayout, BrokenRule}
use Rattle.replaying.specs.declared.reply.Reply.{Reply}
use Rattle.replaying.specs.declared.reply.Reply.TheVariants.{Answered, NoSlip, NotLoaded, NotACall}

abbrev pub seen_text : Seen → List ℕ
seen_text Variable = codes "variable"
seen_text (Atom n) = codes "atom " ++ decimal n
seen_text (Integer z) = codes "integer " ++ signed_decimal z
seen_text (Structure v) = codes "structure " ++ decimal v

abbrev pub verdict_text : Verdict → List ℕ
verdict_text No = codes "no"
verdict_text Yes = codes "yes"

-- a slip is told by the functor's value, name × 64 + arity, and the number of missing arguments
abbrev pub answer_text : Answer → List ℕ
answer_text Nothing = codes "ok"
answer_text (Refused why) = codes "refused " ++ decimal (number_of why)
answer_text (Sees seen) = seen_text seen
answer_text (Tells verdict) = verdict_text verdict
answer_text (Hands slip) = codes "slip " ++ (decimal (slip.name * 64 + slip.arity) ++ (codes " " ++ decimal slip.missing))
answer_text (Counts u) =
    codes "used " ++ (decimal u.used ++ (codes " trail " ++ (decimal u.entries ++ (codes " choices " ++ decimal u.points))))

-- the refusal, the number of the broken rule, 0 for none, and the line at fault
abbrev pub not_loaded_text : LoadFault → List ℕ
not_loaded_text (BadShape line) = codes "refused 10 rule 0 line " ++ decimal line
not_loaded_text (BadLayout line) = codes "refused 11 rule 0 line " ++ decimal line
not_loaded_text (BrokenRule rule line) = codes "refused 12 rule " ++ (decimal (rule_number rule) ++ (codes " line " ++ decimal line))

abbrev pub reply_text : Reply → List ℕ
reply_text (Answered answer) = answer_text answer
reply_text NoSlip = codes "no slip"
reply_text (NotLoaded fault) = not_loaded_text fault
reply_text NotACall = codes "not a call"
