use Rattle.std.proofs.Common.{◌≡◌, ℕ, ◌+◌, ◌<◌, ◌≤◌, sym, ap, ◌∙◌, subst, arith}
use Rattle.lanes.specs.Lanes.{LanesId}
use Rattle.lanes.specs.Inner.Round.{next_lane}
use Rattle.lanes.proofs.RoundLemmas.{IsAt, round_goes_on, round_has_job, round_has_none}
use Rattle.lanes.proofs.lanes.Lanes.take_round.Goals as goal

pub returns-in-Some-clause-takes : goal.returns-in-Some-clause-takes
returns-in-Some-clause-takes c =
    let same = ap (λ (x : LanesId). x.plan.sizes.lanes) c.self.view_is in
    let more : c.loop-turn.turn < c.args.self.now.plan.sizes.lanes = omega (arith, c.loop-turn-test.true, same) in
    (round_has_job _ _ _ _ _ _ _ _ c.requires.from c.loop-turn.invariant.1 more c.try_lane.ensures.stays.only c.try_lane.ensures.steps c.in-Some.job c.in-Some.left c.in-Some.ensures.job).0

pub loop-turn-preserved : goal.loop-turn-preserved
loop-turn-preserved c =
    let lanes = c.args.self.now.plan.sizes.lanes in
    let same = ap (λ (x : LanesId). x.plan.sizes.lanes) c.self.view_is in
    let more : c.loop-turn.turn < lanes = omega (arith, c.loop-turn-test.true, same) in
    let next : c.lane_after-lane.result ≡ next_lane lanes c.loop-turn.lane = c.lane_after-lane.ensures ∙ ap (λ (n : ℕ). next_lane n c.loop-turn.lane) same in (
      c.try_lane.ensures.stays.id,
      subst (λ (n : ℕ). IsAt lanes c.args.from n (c.loop-turn.turn + 1) c.try_lane.new.all_ended c.args.sleeper.now.known c.try_lane.new.sleeper.known) (sym next)
          (round_goes_on _ _ _ _ _ _ _ _ c.requires.from c.loop-turn.invariant.1 more c.try_lane.ensures.stays.only c.try_lane.ensures.steps c.try_lane.new.all_ended c.in_default.ensures.none),
      c.in_default.ensures.same,
      c.try_lane.ensures.stays.deeds ∙ c.loop-turn.invariant.3,
    )

pub returns-clause-takes : goal.returns-clause-takes
returns-clause-takes c =
    let same = ap (λ (x : LanesId). x.plan.sizes.lanes) c.self.view_is in
    let done : c.args.self.now.plan.sizes.lanes ≤ c.loop-turn.turn = omega (arith, c.loop-turn-test.false, same) in
    round_has_none _ _ _ _ _ _ _ c.requires.from c.loop-turn.invariant.1 done c.if-all_ended.false
