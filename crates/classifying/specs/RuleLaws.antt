-- What the rules of the instrument never explain away.
use Rattle.std.specs.Prelude.{◌≡◌}
use Rattle.classifying.specs.declared.echo.Zone.{Zone}
use Rattle.classifying.specs.declared.echo.Zone.TheVariants.{Body}
use Rattle.classifying.specs.declared.echo.Strength.{Strength}
use Rattle.classifying.specs.declared.echo.Strength.TheVariants.{Strong}
use Rattle.classifying.specs.declared.rule.Label.TheVariants.{Flaw}
use Rattle.classifying.specs.Rules.{table, verdict_of}

-- a strong echo is a flaw, wherever it lies
abbrev pub StrongIsFlaw : Type 0
StrongIsFlaw = (z : Zone) → verdict_of table z Strong ≡ Flaw

-- an echo from the body of the weld is a flaw, however strong it is
abbrev pub BodyIsFlaw : Type 0
BodyIsFlaw = (s : Strength) → verdict_of table Body s ≡ Flaw
