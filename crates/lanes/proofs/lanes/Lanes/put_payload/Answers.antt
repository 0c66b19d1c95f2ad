use Rattle.std.proofs.Common.{◌+◌, length, sym, ap, ◌∙◌, arith}
use Rattle.lanes.specs.Inner.Pool.{known_sat}
use Rattle.lanes.specs.declared.sizes.Plan.{Plan}
use Rattle.lanes.specs.declared.record.LaneRecord.{LaneRecord}
use Rattle.lanes.specs.Layout.{cell_of, lane_start}
use Rattle.lanes.specs.Lanes.{LaneOf}
use Rattle.lanes.specs.Inner.Step.{IsLane, puts_payload_at}
use Rattle.lanes.proofs.AskLemmas.{asked_cell}
use Rattle.lanes.proofs.LaneSteps.{put_payload_step}
use Rattle.lanes.proofs.lanes.Lanes.put_payload.Goals as goal

pub store-requires : goal.store-requires
store-requires c =
    let m = (known_sat c.lane.inside.seat.me) in
    let known = ap (λ (x : LaneOf). x.known) c.lane.view_is in
    asked_cell (λ (p : Plan). IsLane p c.lane.inside.number c.lane.inside.seen m) _ _ _ _ c.lane.inside.seat.id c.word-word.result c.args.payload c.lane.inside.number (cell_of c.args.self.now.plan.sizes.capacity c.args.count) c.lane.inside.seat.me (λ st _. puts_payload_at st m c.args.payload)
    (ap (λ (x : LaneOf). x.id) c.lane.view_is ∙ c.requires.id) c.self.view_is c.self.invariant.2 c.lane.invariant.0 c.word-word.ensures.inside
    (c.word-word.ensures.word ∙ ap (λ o. lane_start c.args.self.now.plan c.lane.inside.number + o) c.requires.cell)
    (omega (arith, c.requires.inside, c.requires.cell)) (λ e. omega (arith, e)) (λ e. omega (arith, e))
    (λ n is. put_payload_step _ n _ _ _ m is c.word-word.result c.args.count c.args.payload
    (c.word-word.ensures.word ∙ ap (λ o. lane_start c.args.self.now.plan c.lane.inside.number + o) c.requires.cell)
    (c.requires.count ∙ sym (ap (λ (r : LaneRecord). length r.accepted) known))
    (omega (arith, c.requires.room, ap (λ (r : LaneRecord). r.seen) known, ap (λ (r : LaneRecord). r.capacity) known)))
