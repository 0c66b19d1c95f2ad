use Rattle.std.proofs.Common.{arith}
use Rattle.std.proofs.lemmas.Nat.Bits.{bit_at_above}
use Rattle.wake_pool.specs.declared.layout.TheConstants.{WORD_WORKERS}
use Rattle.wake_calls.proofs.StepLemmas.{come_back_step}
use Rattle.wake_calls.proofs.steps.come_back.Goals as goal

pub compare_exchange-found-requires : goal.compare_exchange-found-requires
compare_exchange-found-requires g c = (
  c.requires.table,
  omega (arith, c.requires.words, c.requires.worker, c.word_of-word.ensures.word),
  come_back_step g.R.WakeRule.threads g.R.WakeRule.goes g.R.WakeRule.noted g.R.TableRule.holds g.R.WakeRule.workers g.R.WakeRule.lanes g.met.R.WakeRule.pool_law c.args.shared.now.key c.args.shared.now.table_id.slots c.args.seat.now.id c.args.seat.now.me c.args.worker c.args.workers (g.R.WakeRule.lanes c.args.shared.now.key) c.word_of-word.result c.bit_of-bit.result c.args.seen c.bit_of-bit.ensures.bit c.word_of-word.ensures.word c.requires.phase c.requires.worker (λ on. omega (arith, on, bit_at_above c.args.seen WORD_WORKERS WORD_WORKERS c.requires.free (omega arith))),
)
