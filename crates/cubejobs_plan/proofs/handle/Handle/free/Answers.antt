-- An open handle of a planner on the heap has one there.
use Rattle.std.proofs.Common.{ap}
use Rattle.cubejobs_plan.specs.CoreIn.{is_open_tag}
use Rattle.cubejobs_plan.proofs.PlaceLemmas.{placed}
use Rattle.cubejobs_plan.proofs.handle.Handle.free.Goals as goal

pub into_box-requires : goal.into_box-requires
into_box-requires c =
    let inside = placed c.args.self.at.content (c.args.self.open.0 (ap is_open_tag c.if-tag-eq-OPEN.true)) in
    (inside.0, inside.1, c.args.self.own c.if-tag-eq-OPEN.true)
