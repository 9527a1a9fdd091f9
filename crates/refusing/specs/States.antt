-- What the memory of a store and its half-made structure stand for.
use Rattle.std.specs.declared.option.Option as std
use Rattle.std.specs.Prelude.{Some, None, Option}
use Rattle.tables.specs.declared.memory.Memory.{Memory}
use Rattle.tables.specs.Views.{tables_of}
use Rattle.calls.specs.Steps.{Half, State}
use Rattle.refusing.specs.declared.half.Half as made

abbrev pub half_of : std.Option made.Half → Option Half
half_of (Some h) = Some (record { at = h.at; missing = h.missing })
half_of None = None

abbrev pub state_of : Memory → std.Option made.Half → State
state_of memory half = record { tables = tables_of memory; half = half_of half }
