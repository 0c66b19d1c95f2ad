use Rattle.std.proofs.Common.{◌≤◌}
use Rattle.tests_bitmap.proofs.tests.crowd.work.Given as goal

abbrev pub invariant-loop : goal.invariant-loop
invariant-loop l = l.k ≤ 13
