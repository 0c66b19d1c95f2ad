-- An open handle has a planner.
use Rattle.cubejobs_plan.proofs.PlaceLemmas.{kept, placed}
use Rattle.cubejobs_plan.proofs.job_exports.cubejobs_plan_submit.Goals as goal

pub get_mut-requires : goal.get_mut-requires
get_mut-requires c = placed c.args.plan.now.at.content (c.is_open.ensures.0 c.if-not-is_open.false)

pub returns-clause-unchanged : goal.returns-clause-unchanged
returns-clause-unchanged c = λ other. kept c.args.plan.now c.get_mut.result.now c.submit.new.scheduler _ _ c.get_mut.ensures.value (c.submit.ensures.unchanged other)
