use Rattle.std.proofs.Common.{◌≡◌, ◌∙◌, arith, ap, subst, sym}
use Rattle.lanes.specs.Inner.Pool.{known_sat}
use Rattle.lanes.specs.declared.sizes.Plan.{Plan}
use Rattle.lanes.specs.Lanes.{LanesId, CloserOf}
use Rattle.lanes.specs.Inner.Step.{ClosesLanes, IsNoteSeat}
use Rattle.lanes.proofs.CloseSteps.{none_closed, all_closed}
use Rattle.wake_pool.specs.declared.phase.WakePhase.TheVariants.{Idle}
use Rattle.lanes.specs.Inner.Caller.{IsCaller}
use Rattle.lanes.proofs.lanes.Lanes.close_all.Goals as goal

pub loop-lane-init : goal.loop-lane-init
loop-lane-init c =
    let same = ap (λ (x : CloserOf). x.id) c.closer.view_is ∙ c.requires in
    let plans = ap (λ (x : LanesId). x.plan) same in
    (ap (λ (x : LanesId). x.table) same, plans, subst (λ (p : Plan). ClosesLanes p 0 0 (known_sat c.closer.inside.seat.me)) plans (none_closed c.closer.inside.plan (known_sat c.closer.inside.seat.me) c.closer.invariant.0), subst (λ (p : Plan). IsCaller p Idle c.closer.inside.seat.me) plans c.closer.invariant.1)

pub invariant_of-result : goal.invariant_of-result
invariant_of-result c =
    let inv = c.loop-lane.invariant in
    let at : c.loop-lane.lane ≡ c.args.self.now.plan.sizes.lanes = omega (arith, c.loop-lane-test.false, c.loop-lane.auto.lane-end, ap (λ (x : LanesId). x.plan.sizes.lanes) c.self.view_is) in
    let all = all_closed c.args.self.now.plan c.loop-lane.lane c.loop-lane.total (known_sat c.loop-lane.seat.me) at inv.2 in
    (subst (λ (p : Plan). IsNoteSeat p (known_sat c.loop-lane.seat.me)) (sym inv.1) all.0, all.2, subst (λ (p : Plan). IsCaller p Idle c.loop-lane.seat.me) (sym inv.1) inv.3)
