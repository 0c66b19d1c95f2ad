use Rattle.std.proofs.Common.{◌≡◌}
use Rattle.wake_pool.specs.Schedule.{waking}
use Rattle.wake_pool.specs.Words.{word_count}
use Rattle.wake_calls.specs.Thread.{moved}
use Rattle.wake_calls.proofs.waking.wake_check.Given as goal

abbrev pub invariant-loop : goal.invariant-loop
invariant-loop g l =
    (l.seat.table_id ≡ l.fn.seat.table_id)
    × (l.seat.me ≡ moved g.R.WakeRule.goes (waking (word_count l.workers) l.word) l.fn.seat.me)
