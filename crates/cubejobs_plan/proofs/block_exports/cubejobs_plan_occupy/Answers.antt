-- An open handle has a planner.
use Rattle.std.proofs.Common.{sym, ap, subst}
use Rattle.cubejobs_plan.specs.Blocks.{IsInUse, block_at}
use Rattle.cubejobs_plan.specs.CoreIn.{core_in}
use Rattle.cubejobs_plan.specs.Handle.{OnCore}
use Rattle.cubejobs_plan.proofs.PlaceLemmas.{placed}
use Rattle.cubejobs_plan.proofs.block_exports.cubejobs_plan_occupy.Goals as goal

pub get_mut-requires : goal.get_mut-requires
get_mut-requires c = placed c.args.plan.now.at.content (c.is_open.ensures.0 c.if-not-is_open.false)

pub returns-clause-wrong_state : goal.returns-clause-wrong_state
returns-clause-wrong_state c = λ code.
    subst (OnCore (IsInUse (block_at c.args.base c.args.dim))) (sym (ap core_in c.get_mut.ensures.value)) (c.occupy.ensures.wrong_state code)
