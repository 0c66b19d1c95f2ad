use Rattle.std.proofs.Common.{arith}
use Rattle.wake_calls.specs.Thread.{number_of}
use Rattle.wake_calls.proofs.StepLemmas.{notice_step}
use Rattle.wake_calls.proofs.steps.notice.Goals as goal

pub load-found-requires : goal.load-found-requires
load-found-requires g c = (
  c.requires.table,
  omega (arith, c.requires.words, c.requires.word),
  notice_step g.R.WakeRule.threads g.R.WakeRule.goes g.R.WakeRule.noted g.R.TableRule.holds g.R.WakeRule.workers g.R.WakeRule.lanes g.met.R.WakeRule.pool_law c.args.shared.now.key c.args.shared.now.table_id.slots c.args.seat.now.id c.args.seat.now.me (number_of (g.R.WakeRule.threads c.args.seat.now.me.0)) c.args.workers (g.R.WakeRule.lanes c.args.shared.now.key) c.args.word c.requires.phase c.requires.word,
)
