use Rattle.std.proofs.Common.{ap, ◌∙◌}
use Rattle.lanes.specs.Inner.Pool.{known_sat}
use Rattle.lanes.specs.declared.sizes.Plan.{Plan}
use Rattle.lanes.specs.Lanes.{LaneOf}
use Rattle.lanes.specs.Inner.Step.{IsLane, looks_at}
use Rattle.lanes.proofs.AskLemmas.{asked_read}
use Rattle.lanes.proofs.LaneSteps.{look_step}
use Rattle.lanes.proofs.lanes.Lanes.look_for_room.Goals as goal

pub load-taken-requires : goal.load-taken-requires
load-taken-requires c =
    let m = (known_sat c.lane.inside.seat.me) in
    asked_read (λ (p : Plan). IsLane p c.lane.inside.number c.lane.inside.seen m) _ _ _ _ c.lane.inside.seat.id c.word-head.result 0 0 c.lane.inside.seat.me (λ st. looks_at st m)
    (ap (λ (x : LaneOf). x.id) c.lane.view_is ∙ c.requires.id) c.self.view_is c.self.invariant.2 c.lane.invariant.0 c.word-head.ensures.inside
    (λ n is. look_step _ n _ _ _ m is c.word-head.result c.word-head.ensures.word)
