-- What a fault of a line is called for the load; refusal, rule and line of a fault.
use Rattle.std.specs.Prelude.{ℕ, Some, None, Option}
use Rattle.cells.specs.declared.refusal.Refusal.{Refusal}
use Rattle.cells.specs.declared.refusal.Refusal.TheVariants as refusal
use Rattle.heaps.specs.declared.rule.Rule.{Rule}
use Rattle.heaps.specs.declared.rule.Fault.{Fault}
use Rattle.lines.specs.declared.fault.LineFault.{LineFault}
use Rattle.lines.specs.declared.fault.LineFault.TheVariants as line
use Rattle.images.specs.declared.fault.LoadFault.{LoadFault}
use Rattle.images.specs.declared.fault.LoadFault.TheVariants as load

abbrev pub of_line : LineFault → LoadFault
of_line (line.BadShape n) = load.BadShape n
of_line (line.BadLayout n) = load.BadLayout n

abbrev pub of_rule : Fault → LoadFault
of_rule f = load.BrokenRule f.rule f.line

abbrev pub refusal_of : LoadFault → Refusal
refusal_of (load.BadShape n) = refusal.BadShape
refusal_of (load.BadLayout n) = refusal.BadLayout
refusal_of (load.BrokenRule r n) = refusal.BrokenRule

abbrev pub broken_rule : LoadFault → Option Rule
broken_rule (load.BadShape n) = None
broken_rule (load.BadLayout n) = None
broken_rule (load.BrokenRule r n) = Some r

abbrev pub fault_line : LoadFault → ℕ
fault_line (load.BadShape n) = n
fault_line (load.BadLayout n) = n
fault_line (load.BrokenRule r n) = n
