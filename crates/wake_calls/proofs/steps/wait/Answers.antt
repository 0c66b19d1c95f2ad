use Rattle.std.proofs.Common.{arith}
use Rattle.wake_calls.proofs.StepLemmas.{wait_step}
use Rattle.wake_calls.proofs.steps.wait.Goals as goal

pub compare_exchange-requires : goal.compare_exchange-requires
compare_exchange-requires g c = (
  c.requires.table,
  omega (arith, c.requires.words, c.requires.worker, c.token_at-token.ensures.place),
  wait_step g.R.WakeRule.threads g.R.WakeRule.goes g.R.WakeRule.noted g.R.TableRule.holds g.R.WakeRule.workers g.R.WakeRule.lanes g.met.R.WakeRule.pool_law c.args.shared.now.key c.args.shared.now.table_id.slots c.args.seat.now.id c.args.seat.now.me c.args.worker c.args.workers (g.R.WakeRule.lanes c.args.shared.now.key) c.token_at-token.result c.token_at-token.ensures.place c.requires.phase c.requires.worker,
)
