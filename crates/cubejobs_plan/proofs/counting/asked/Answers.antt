-- The running jobs asked for no more processors than there are.
use Rattle.std.proofs.Common.{ℕ, ◌≤◌, subst, sym, arith}
use Rattle.cube_shape.specs.declared.limits.TheConstants.{MAX_BITMAP_DIM}
use Rattle.sched_core.proofs.CoreLemmas.{core_safe}
use Rattle.cubejobs_plan.proofs.AskedLemmas.{asked_few}
use Rattle.cubejobs_plan.proofs.counting.asked.Goals as goal

pub overflow_cast-result : goal.overflow_cast-result
overflow_cast-result c =
    let w = c.shows_a_state.ensures.0 in
    let k = c.shows_a_state.ensures.1 in
    let limit : w.dim ≤ MAX_BITMAP_DIM = subst (λ (d : ℕ). d ≤ MAX_BITMAP_DIM) (sym k.machine.dim) k.limit in
    let few = asked_few w (core_safe w c.args.scheduler.now k) limit in
    let is = c.asked.ensures w k in
    omega (arith, few, is)
