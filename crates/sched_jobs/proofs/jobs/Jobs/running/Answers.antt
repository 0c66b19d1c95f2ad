-- The counter counts the running jobs.
use Rattle.std.proofs.Common.{sym, ◌∙◌, ap, subst}
use Rattle.alloc_bits.specs.Count.{IsCount}
use Rattle.sched_jobs.specs.Counts.{DoesRun}
use Rattle.sched_jobs.specs.Sums.{one_runs, sum_below}
use Rattle.sched_jobs.proofs.SumLemmas.{runs_counted}
use Rattle.sched_jobs.proofs.jobs.Jobs.running.Goals as goal

pub returns : goal.returns
returns c = λ w shows.
    subst (IsCount (DoesRun w) w.next) (ap (sum_below one_runs w.place) shows.0 ∙ sym shows.3.counted.of_jobs) (runs_counted w.place w.next)
