-- The slack says which jobs are brief.
use Rattle.std.proofs.Common.{inr}
use Rattle.sched_core.proofs.ChoiceLemmas.{brief_limit}
use Rattle.sched_core.proofs.scheduler.Core.limit_beside.Goals as goal

pub returns-clause-brief : goal.returns-clause-brief
returns-clause-brief c = λ w k. inr (brief_limit w c.args.self.now k c.args.avoid c.slack.result c.latest.result (c.latest.ensures w k.machine) c.slack.ensures)
