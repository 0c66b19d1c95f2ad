use Rattle.sched_blocks.proofs.ServeLemmas.{serves_better, serves_busy, serves_busy_under, serves_latest, serves_latest_under}
use Rattle.sched_blocks.proofs.tree_law.trees_serve_the_policy.Goals as goal

pub returns-clause-latest : goal.returns-clause-latest
returns-clause-latest c = λ w own used ends busy v r tracks named none. serves_latest w own used ends busy tracks v r named none

pub returns-clause-latest_under : goal.returns-clause-latest_under
returns-clause-latest_under c = λ w own used ends busy u v r tracks named is over. serves_latest_under w own used ends busy tracks v r named u is over

pub returns-clause-busy : goal.returns-clause-busy
returns-clause-busy c = λ w own used ends busy v r tracks named none. serves_busy w own used ends busy tracks v r named none

pub returns-clause-busy_under : goal.returns-clause-busy_under
returns-clause-busy_under c = λ w own used ends busy u v r tracks named is over. serves_busy_under w own used ends busy tracks v r named u is over

pub returns-clause-better : goal.returns-clause-better
returns-clause-better c = λ w own used ends busy v r tracks named some. serves_better w own used ends busy tracks v r named some
