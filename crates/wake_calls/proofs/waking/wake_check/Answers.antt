use Rattle.std.proofs.Common.{refl, ◌≡◌, ℕ, subst}
use Rattle.wake_pool.specs.declared.phase.WakePhase.TheVariants.{Giving}
use Rattle.wake_pool.specs.Schedule.{waking}
use Rattle.wake_pool.specs.Words.{word_count}
use Rattle.wake_calls.specs.Thread.{moved}
use Rattle.wake_calls.proofs.FirstLemmas.{same_worker}
use Rattle.wake_calls.proofs.GoesLemmas.{goes_same, moved_again}
use Rattle.wake_calls.proofs.waking.wake_check.Goals as goal

pub returns-in-Taken-clause-woken : goal.returns-in-Taken-clause-woken
returns-in-Taken-clause-woken g c =
    λ x told. subst (λ (y : ℕ). c.wake_next.new.seat.me ≡ moved g.R.WakeRule.goes (Giving y) c.args.seat.now.me) (same_worker c.in-Taken.sleeper x told)
    (moved_again g.R.WakeRule.threads g.R.WakeRule.goes g.R.WakeRule.noted g.R.TableRule.holds g.R.WakeRule.workers g.R.WakeRule.lanes g.met.R.WakeRule.pool_law
    c.args.seat.now.me c.loop.seat.me c.wake_next.new.seat.me (waking (word_count c.args.workers) c.loop.word) (Giving c.in-Taken.sleeper)
    c.loop.invariant.1 (c.wake_next.ensures.woken c.in-Taken.sleeper c.in-Taken.is))

pub loop-init : goal.loop-init
loop-init g c = (
  refl,
  goes_same g.R.WakeRule.threads g.R.WakeRule.goes g.R.WakeRule.noted g.R.TableRule.holds g.R.WakeRule.workers g.R.WakeRule.lanes g.met.R.WakeRule.pool_law
      c.args.seat.now.me c.args.workers (g.R.WakeRule.lanes c.args.shared.now.key) (waking (word_count c.args.workers) c.args.word) c.requires.phase,
)
