use Rattle.tables.specs.Views.{tables_of}
use Rattle.heaps.specs.RuleTests.{oldest}
use Rattle.checking.proofs.top_rule.stray_trail_top.Given as goal

abbrev pub ghost-first_stray : goal.ghost-first_stray
ghost-first_stray a = λ p. (oldest (tables_of a.top.0.now) p).trail_top
