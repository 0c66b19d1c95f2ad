-- An open handle has a planner.
use Rattle.cubejobs_plan.proofs.PlaceLemmas.{placed}
use Rattle.cubejobs_plan.proofs.look_exports.cubejobs_plan_counts.Goals as goal

pub get_mut-requires : goal.get_mut-requires
get_mut-requires c = placed c.args.plan.now.at.content (c.is_open.ensures.0 c.if-not-is_open.false)
