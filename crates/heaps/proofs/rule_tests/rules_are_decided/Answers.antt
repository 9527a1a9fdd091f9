use Rattle.std.proofs.Common.{refl}
use Rattle.heaps.proofs.RuleTestsCycles.{cycle_decided}
use Rattle.heaps.proofs.RuleTestsLevels.{level_decided}
use Rattle.heaps.proofs.RuleTestsFault.{rule_decided, fault_none, fault_named}
use Rattle.heaps.proofs.rule_tests.rules_are_decided.Goals as goal

pub returns : goal.returns
returns c =
    record {
      decided = rule_decided;
      cycles = cycle_decided;
      levels = level_decided;
      none = fault_none;
      named = fault_named;
      answer = refl;
    }
