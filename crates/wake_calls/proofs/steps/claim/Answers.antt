use Rattle.std.proofs.Common.{arith}
use Rattle.wake_calls.proofs.StepLemmas.{claim_step}
use Rattle.wake_calls.proofs.steps.claim.Goals as goal

pub fetch_or-found-requires : goal.fetch_or-found-requires
fetch_or-found-requires g c = (
  c.requires.table,
  omega (arith, c.requires.words, c.requires.worker, c.word_of.ensures.word),
  claim_step g.R.WakeRule.threads g.R.WakeRule.goes g.R.WakeRule.noted g.R.TableRule.holds g.R.WakeRule.workers g.R.WakeRule.lanes g.met.R.WakeRule.pool_law c.args.shared.now.key c.args.shared.now.table_id.slots c.args.seat.now.id c.args.seat.now.me c.args.worker c.args.workers (g.R.WakeRule.lanes c.args.shared.now.key) c.word_of.result c.word_of.ensures.word c.requires.phase c.requires.worker,
)
