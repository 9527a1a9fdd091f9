-- What a stack of fixed capacity stands for: the places in use, from the first on.
use Rattle.std.specs.Prelude.{ℕ, List, take}
use Rattle.tables.specs.declared.stack.Stack.{Stack}

abbrev pub listed : {T : Type 0} {N : ℕ} → Stack T N → List T
listed s = take s.len s.items
