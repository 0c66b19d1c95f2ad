-- The sum is kept.
use Rattle.std.proofs.Common.{sym, ◌∙◌, ap}
use Rattle.sched_jobs.specs.Sums.{sum_below, used_by}
use Rattle.sched_jobs.proofs.jobs.Jobs.asked.Goals as goal

pub returns : goal.returns
returns c = λ w shows. shows.3.summed.of_jobs ∙ ap (sum_below used_by w.place) (sym shows.0)
