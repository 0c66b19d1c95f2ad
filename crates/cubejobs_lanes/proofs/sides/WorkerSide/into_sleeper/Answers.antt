-- The worker is one of the same lanes.
use Rattle.std.proofs.Common.{◌∙◌, ◌<◌, subst, sym}
use Rattle.std.specs.Arc.{arc_value}
use Rattle.lanes.specs.declared.record.WorkerRecord.{WorkerRecord}
use Rattle.cubejobs_lanes.proofs.sides.WorkerSide.into_sleeper.Goals as goal

pub invariant_of-result : goal.invariant_of-result
invariant_of-result c = record {
  of_lanes = c.in-Ok.ensures.id ∙ c.into_parts-common.ensures.of_lanes;
  inside = subst (λ (r : WorkerRecord). r.number < (arc_value c.into_parts-common.result.0).lanes.plan.sizes.workers) (sym c.in-Ok.ensures.known) c.into_parts-common.ensures.inside;
  wakes = tt;
}
