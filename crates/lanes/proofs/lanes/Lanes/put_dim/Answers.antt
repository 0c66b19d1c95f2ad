use Rattle.std.proofs.Common.{◌+◌, length, sym, ap, ◌∙◌, arith}
use Rattle.lanes.specs.Inner.Pool.{known_sat}
use Rattle.lanes.specs.declared.sizes.Plan.{Plan}
use Rattle.lanes.specs.declared.record.LaneRecord.{LaneRecord}
use Rattle.lanes.specs.Layout.{cell_of, lane_start}
use Rattle.lanes.specs.Lanes.{LaneOf}
use Rattle.lanes.specs.Inner.Step.{IsLane, puts_dim_at}
use Rattle.lanes.proofs.AskLemmas.{asked_cell}
use Rattle.lanes.proofs.LaneSteps.{put_dim_step}
use Rattle.lanes.proofs.lanes.Lanes.put_dim.Goals as goal

pub store-requires : goal.store-requires
store-requires c =
    let m = (known_sat c.lane.inside.seat.me) in
    let known = ap (λ (x : LaneOf). x.known) c.lane.view_is in
    asked_cell (λ (p : Plan). IsLane p c.lane.inside.number c.lane.inside.seen m) _ _ _ _ c.lane.inside.seat.id c.word-word.result c.args.dim c.lane.inside.number (cell_of c.args.self.now.plan.sizes.capacity c.args.count + 1) c.lane.inside.seat.me (λ st _. puts_dim_at st m c.args.dim)
    (ap (λ (x : LaneOf). x.id) c.lane.view_is ∙ c.requires.id) c.self.view_is c.self.invariant.2 c.lane.invariant.0 c.word-word.ensures.inside
    (c.word-word.ensures.word ∙ ap (λ o. lane_start c.args.self.now.plan c.lane.inside.number + (o + 1)) c.requires.cell)
    (omega (arith, c.requires.inside, c.requires.cell)) (λ e. omega (arith, e)) (λ e. omega (arith, e))
    (λ n is. put_dim_step _ n _ _ _ m is c.word-word.result c.args.count c.args.dim
    (c.word-word.ensures.word ∙ ap (λ o. lane_start c.args.self.now.plan c.lane.inside.number + (o + 1)) c.requires.cell)
    (c.requires.count ∙ sym (ap (λ (r : LaneRecord). length r.accepted) known))
    (omega (arith, c.requires.room, ap (λ (r : LaneRecord). r.seen) known, ap (λ (r : LaneRecord). r.capacity) known))
    (omega (arith, c.ranges.dim.fits)))
