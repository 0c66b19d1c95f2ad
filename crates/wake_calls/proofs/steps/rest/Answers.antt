use Rattle.std.proofs.Common.{arith}
use Rattle.wake_calls.proofs.StepLemmas.{rest_step}
use Rattle.wake_calls.proofs.steps.rest.Goals as goal

pub fetch_or-requires : goal.fetch_or-requires
fetch_or-requires g c = (
  c.requires.table,
  omega (arith, c.requires.words, c.requires.worker, c.word_of.ensures.word),
  rest_step g.R.WakeRule.threads g.R.WakeRule.goes g.R.WakeRule.noted g.R.TableRule.holds g.R.WakeRule.workers g.R.WakeRule.lanes g.met.R.WakeRule.pool_law c.args.shared.now.key c.args.shared.now.table_id.slots c.args.seat.now.id c.args.seat.now.me c.args.worker c.args.workers (g.R.WakeRule.lanes c.args.shared.now.key) c.word_of.result c.bit_of-bit.result c.bit_of-bit.ensures.bit c.word_of.ensures.word c.requires.phase c.requires.worker,
)
