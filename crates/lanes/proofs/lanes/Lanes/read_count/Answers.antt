use Rattle.std.proofs.Common.{ap, ◌∙◌}
use Rattle.lanes.specs.Inner.Pool.{known_sat}
use Rattle.lanes.specs.declared.sizes.Plan.{Plan}
use Rattle.lanes.specs.Lanes.{LaneOf}
use Rattle.lanes.specs.Inner.Step.{IsLane, reads_count_at}
use Rattle.lanes.proofs.AskLemmas.{asked_read}
use Rattle.lanes.proofs.LaneSteps.{read_count_step}
use Rattle.lanes.proofs.lanes.Lanes.read_count.Goals as goal

pub load-found-requires : goal.load-found-requires
load-found-requires c =
    let m = (known_sat c.lane.inside.seat.me) in
    asked_read (λ (p : Plan). IsLane p c.lane.inside.number c.lane.inside.seen m) _ _ _ _ c.lane.inside.seat.id c.word-tail.result 0 0 c.lane.inside.seat.me (λ st. reads_count_at st m)
    (ap (λ (x : LaneOf). x.id) c.lane.view_is ∙ c.requires) c.self.view_is c.self.invariant.2 c.lane.invariant.0 c.word-tail.ensures.inside
    (λ n is. read_count_step _ n _ _ _ m is c.word-tail.result c.word-tail.ensures.word)
