use Rattle.std.proofs.Common.{arith}
use Rattle.wake_calls.proofs.StepLemmas.{read_step}
use Rattle.wake_calls.proofs.steps.read_mail.Goals as goal

pub load-requires : goal.load-requires
load-requires g c = (
  c.requires.table,
  omega (arith, c.requires.words, c.requires.worker, c.mail_at.ensures.place),
  read_step g.R.WakeRule.threads g.R.WakeRule.goes g.R.WakeRule.noted g.R.TableRule.holds g.R.WakeRule.workers g.R.WakeRule.lanes g.met.R.WakeRule.pool_law c.args.shared.now.key c.args.shared.now.table_id.slots c.args.seat.now.id c.args.seat.now.me c.args.worker c.args.workers (g.R.WakeRule.lanes c.args.shared.now.key) c.mail_at.result c.mail_at.ensures.place c.requires.phase c.requires.worker,
)
