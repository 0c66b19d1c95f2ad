use Rattle.std.proofs.Common.{length, sym, ap, ◌∙◌}
use Rattle.lanes.specs.Inner.Pool.{IsProducer, known_sat}
use Rattle.lanes.specs.declared.sizes.Plan.{Plan}
use Rattle.lanes.specs.declared.record.LaneRecord.{LaneRecord}
use Rattle.lanes.specs.Lanes.{LaneOf}
use Rattle.lanes.specs.Inner.Step.{IsLane, accepts_at}
use Rattle.lanes.proofs.AskLemmas.{asked_put}
use Rattle.lanes.proofs.LaneSteps.{accept_step}
use Rattle.lanes.proofs.lanes.Lanes.accept.Goals as goal

pub compare_exchange-found-requires : goal.compare_exchange-found-requires
compare_exchange-found-requires c =
    let m = (known_sat c.lane.inside.seat.me) in
    let known = ap (λ (x : LaneOf). x.known) c.lane.view_is in
    asked_put (λ (p : Plan). IsLane p c.lane.inside.number c.lane.inside.seen m × IsProducer p c.lane.inside.number c.lane.inside.seat.me) _ _ _ _ c.lane.inside.seat.id c.word-tail.result c.args.count c.lane.inside.number c.lane.inside.seat.me (λ st. accepts_at st m)
    (ap (λ (x : LaneOf). x.id) c.lane.view_is ∙ c.requires.id) c.self.view_is c.self.invariant.2 (c.lane.invariant.0, c.lane.invariant.2) c.word-tail.ensures.inside c.word-tail.ensures.word c.requires.unspent (λ is. (is.0.within, is.1))
    (λ n is. accept_step _ n _ _ _ m is.0 c.word-tail.result c.args.count c.args._payload c.args._dim c.word-tail.ensures.word
    (c.requires.count ∙ sym (ap (λ (r : LaneRecord). length r.accepted) known))
    (ap (λ (r : LaneRecord). r.payload) known ∙ c.requires.payload)
    (ap (λ (r : LaneRecord). r.dim) known ∙ c.requires.dim)
    c.requires.unspent)
