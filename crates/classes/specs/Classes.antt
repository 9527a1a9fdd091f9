-- What a table of classes stands for: the merges made since it was last cleared, the newest first.
use Rattle.std.specs.Prelude.{List}
use Rattle.classes.specs.Merges.{Merge}
use Rattle.classes.specs.Links.{merges_of}
use Rattle.classes.specs.declared.classes.Classes.{Classes}

abbrev pub merges : Classes → List Merge
merges c = merges_of c.merged
