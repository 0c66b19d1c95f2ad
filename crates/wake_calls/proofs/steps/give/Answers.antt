use Rattle.std.proofs.Common.{arith, ◌∙◌, ap, sym, List}
use Rattle.wake_pool.specs.Words.{token_at}
use Rattle.wake_calls.specs.Thread.{number_of}
use Rattle.wake_calls.specs.Inner.Steps.{workers_of}
use Rattle.wake_calls.specs.declared.rule.ThreadRecord.{ThreadRecord}
use Rattle.wake_calls.proofs.StepLemmas.{give_step}
use Rattle.wake_calls.proofs.steps.give.Goals as goal

pub store-requires : goal.store-requires
store-requires g c = (
  c.requires.table,
  omega (arith, c.requires.words, c.requires.to, c.token_at.ensures.place),
  give_step g.R.WakeRule.threads g.R.WakeRule.goes g.R.WakeRule.noted g.R.TableRule.holds g.R.WakeRule.workers g.R.WakeRule.lanes g.met.R.WakeRule.pool_law c.args.shared.now.key c.args.shared.now.table_id.slots c.args.seat.now.id c.args.seat.now.me (number_of (g.R.WakeRule.threads c.args.seat.now.me.0)) c.args.workers (g.R.WakeRule.lanes c.args.shared.now.key) c.token_at.result c.args.to c.token_at.ensures.place c.requires.phase c.requires.to,
)

pub returns-clause-idle : goal.returns-clause-idle
returns-clause-idle g c =
    c.store.ensures.2 c.args.to (ap (λ (rs : List ThreadRecord). token_at (workers_of rs) c.args.to) c.requires.phase ∙ sym c.token_at.ensures.place)
