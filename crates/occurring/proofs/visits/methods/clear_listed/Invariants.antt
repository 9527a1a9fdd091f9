use Rattle.std.proofs.Common.{◌≡◌, length}
use Rattle.occurring.proofs.ByteLaws.{LeftFrom}
use Rattle.occurring.proofs.visits.methods.clear_listed.Given as goal

-- what is listed before place `n-index` is cleared
abbrev pub invariant-loop-n : goal.invariant-loop-n
invariant-loop-n l = (length l.bytes ≡ 4096) × LeftFrom l.n-index l.bytes l.n-items
