-- Rules, the first that fits, and the rules of the instrument.
use Rattle.std.specs.Prelude.{◌≡◌, ℕ, Bool, true, cond, ◌&&◌, List, [], ◌∷◌, Some, None, Option, ◌==◌, find}
use Rattle.std.specs.Option.{option_map}
use Rattle.classifying.specs.declared.echo.Zone.{Zone}
use Rattle.classifying.specs.declared.echo.Zone.TheVariants as zone
use Rattle.classifying.specs.declared.echo.Strength.{Strength}
use Rattle.classifying.specs.declared.echo.Strength.TheVariants as strength
use Rattle.classifying.specs.declared.rule.Label.{Label}
use Rattle.classifying.specs.declared.rule.Label.TheVariants.{Root, Flaw, Geometry}
use Rattle.classifying.specs.declared.rule.Rule.{Rule}
use Rattle.classifying.specs.Echoes.{zone_atom, strength_atom}

-- the root of the weld has one name, as a label and as a zone
abbrev pub label_atom : Label → ℕ
label_atom Root = 1
label_atom Flaw = 8
label_atom Geometry = 9

abbrev pub label_named : ℕ → Option Label
label_named n = cond (n == 1) (Some Root) (cond (n == 8) (Some Flaw) (cond (n == 9) (Some Geometry) None))

-- a label is the one that its atom names
abbrev pub NamedBack : Type 0
NamedBack = (l : Label) → label_named (label_atom l) ≡ Some l

-- a rule that names no zone fits in any
abbrev pub zone_fits : Option Zone → Zone → Bool
zone_fits None z = true
zone_fits (Some r) z = zone_atom r == zone_atom z

abbrev pub strength_fits : Option Strength → Strength → Bool
strength_fits None s = true
strength_fits (Some r) s = strength_atom r == strength_atom s

abbrev pub fits : Rule → Zone → Strength → Bool
fits r z s = zone_fits r.zone z && strength_fits r.strength s

-- the label of the first rule that fits
abbrev pub first_fit : List Rule → Zone → Strength → Option Label
first_fit rs z s = option_map (λ r. r.label) (find (λ r. fits r z s) rs)

-- an echo that no rule explains is a flaw
abbrev pub or_flaw : Option Label → Label
or_flaw None = Flaw
or_flaw (Some l) = l

abbrev pub verdict_of : List Rule → Zone → Strength → Label
verdict_of rs z s = or_flaw (first_fit rs z s)

abbrev pub table : List Rule
table =
    record { label = Flaw; zone = None; strength = Some strength.Strong }
    ∷ record { label = Root; zone = Some zone.Root; strength = None }
    ∷ record { label = Geometry; zone = Some zone.Cap; strength = None }
    ∷ record { label = Geometry; zone = Some zone.Beside; strength = Some strength.Weak }
    ∷ record { label = Flaw; zone = Some zone.Body; strength = None }
    ∷ []
