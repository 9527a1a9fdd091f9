-- A store made from an image.
use Rattle.std.specs.Prelude.{Ok, Err, Result, None}
use Rattle.tables.specs.Tables.{Tables}
use Rattle.calls.specs.Steps.{State}
use Rattle.images.specs.declared.fault.LoadFault.{LoadFault}
use Rattle.store.specs.declared.store.Store.{Store}
use Rattle.store.specs.Called.{state}

-- loaded tables as a state: no structure is half made
abbrev pub opened : Result Tables LoadFault → Result State LoadFault
opened (Ok t) = Ok (record { tables = t; half = None })
opened (Err e) = Err e

-- the state of a store that was made
abbrev pub held : Result Store LoadFault → Result State LoadFault
held (Ok s) = Ok (state s)
held (Err e) = Err e
