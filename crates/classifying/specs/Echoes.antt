-- Where an echo lies, how strong it is, and the atoms that name zones and strengths.
use Rattle.std.specs.Prelude.{ℕ, cond, nat_le, nat_lt}
use Rattle.classifying.specs.declared.echo.Echo.{Echo}
use Rattle.classifying.specs.declared.echo.Zone.{Zone}
use Rattle.classifying.specs.declared.echo.Zone.TheVariants.{Root, Body, Cap, Beside}
use Rattle.classifying.specs.declared.echo.Strength.{Strength}
use Rattle.classifying.specs.declared.echo.Strength.TheVariants.{Weak, Medium, Strong}

-- more than 8 mm from the centre line, else by depth: from 90 percent of the wall on, or down to 10, or between
abbrev pub zone_of : Echo → Zone
zone_of e = cond (nat_lt 80 e.offset) Beside (cond (nat_le 90 e.depth) Root (cond (nat_le e.depth 10) Cap Body))

abbrev pub strength_of : Echo → Strength
strength_of e = cond (nat_le 50 e.amplitude) Strong (cond (nat_le 20 e.amplitude) Medium Weak)

abbrev pub zone_atom : Zone → ℕ
zone_atom Root = 1
zone_atom Body = 2
zone_atom Cap = 3
zone_atom Beside = 4

abbrev pub strength_atom : Strength → ℕ
strength_atom Weak = 5
strength_atom Medium = 6
strength_atom Strong = 7
