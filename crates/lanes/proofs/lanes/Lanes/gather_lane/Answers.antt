use Rattle.std.proofs.Common.{subst, sym, ap, ◌∙◌, arith}
use Rattle.atomic_table.specs.Table.{Joins}
use Rattle.lanes.specs.declared.sizes.Plan.{Plan}
use Rattle.lanes.specs.Inner.Pool.{KeepsBoth, joined_both, spent_both}
use Rattle.lanes.proofs.PoolLemmas.{joins_both}
use Rattle.lanes.specs.Lanes.{LanesId, LaneOf, EndOf}
use Rattle.lanes.specs.Inner.Step.{Sat}
use Rattle.lanes.proofs.LayoutLemmas.{lane-inside}
use Rattle.lanes.proofs.DealLemmas.{joins_views}
use Rattle.lanes.proofs.lanes.Lanes.gather_lane.Goals as goal

pub join_seat-requires : goal.join_seat-requires
join_seat-requires c = (
  ap (λ (x : LanesId). x.table) (ap (λ (x : EndOf). x.id) c.end.view_is ∙ (c.requires.end ∙ sym c.self.view_is)),
  ap (λ (x : LanesId). x.table) (ap (λ (x : LaneOf). x.id) c.lane.view_is ∙ (c.requires.lane ∙ sym c.self.view_is)),
  ap (λ (m : Sat). m.1) c.lane.invariant.0.seat,
  omega (arith, c.self.invariant.0, lane-inside c.self.inside.plan 0 0 c.self.invariant.4 (omega arith)),
  subst (λ (k : Plan). Joins (KeepsBoth k) c.end.inside.seat.id c.end.inside.seat.me.0 c.lane.inside.seat.id c.lane.inside.seat.me.0 (joined_both c.end.inside.seat.me.0 c.lane.inside.seat.me.0) spent_both) (sym c.self.invariant.2)
      (joins_both c.self.inside.plan c.end.inside.seat.id c.end.inside.seat.me.0 c.lane.inside.seat.id c.lane.inside.seat.me.0 (joins_views c.self.inside.plan _ _ _ _)),
)
