use Rattle.std.proofs.Common.{◌≡◌, sym, ap, subst, ◌∙◌, ◌<◌, arith}
use Rattle.wake_pool.specs.Words.{word_count}
use Rattle.lanes.specs.Record.{fresh_lane}
use Rattle.lanes.specs.Inner.Step.{Sat, IsLane, lane_in}
use Rattle.lanes.specs.Inner.Pool.{known_sat, IsProducer}
use Rattle.lanes.specs.declared.sizes.Plan.{Plan}
use Rattle.lanes.specs.Lanes.{LanesId, MembersOf}
use Rattle.lanes.proofs.LayoutLemmas.{lane-inside}
use Rattle.lanes.proofs.PoolLemmas.{deals_lane_both}
use Rattle.lanes.proofs.AskLemmas.{dealt_producer, dealt_idle, over_idle}
use Rattle.lanes.proofs.DealLemmas.{deals_lane, dealt_lane}
use Rattle.lanes.proofs.lanes.Lanes.deal_lane.Goals as goal

pub split_seat-seat-requires : goal.split_seat-seat-requires
split_seat-seat-requires c =
    let plan = c.self.inside.plan in
    (ap (λ (x : LanesId). x.table) (ap (λ (x : MembersOf). x.id) c.members.view_is ∙ (c.requires.members ∙ sym c.self.view_is)), omega (arith, c.self.invariant.0, lane-inside plan 0 0 c.self.invariant.4 (omega arith)), deals_lane_both c.self.inside.table.shared.key c.members.inside.seat.id c.members.inside.seat.me.0 (deals_lane c.self.inside.table.shared.key _ _))

pub invariant_of-members : goal.invariant_of-members
invariant_of-members c =
    let low = (subst (λ (p : Plan). c.members.inside.dealt_lanes < p.sizes.lanes) (sym (ap (λ (x : LanesId). x.plan) (ap (λ (x : MembersOf). x.id) c.members.view_is ∙ c.requires.members))) (subst (λ (z : MembersOf). z.dealt_lanes < c.args.self.now.plan.sizes.lanes) (sym c.members.view_is) c.requires.more)) in
    (((dealt_lane c.members.inside.plan c.members.inside.dealt_lanes c.members.inside.dealt_workers (known_sat c.members.inside.seat.me) (known_sat c.split_seat-seat.new.seat.me) (known_sat c.split_seat-seat.result.me) c.members.invariant.0 (subst (λ (p : Plan). c.members.inside.dealt_lanes < p.sizes.lanes) (sym (ap (λ (x : LanesId). x.plan) (ap (λ (x : MembersOf). x.id) c.members.view_is ∙ c.requires.members))) (subst (λ (z : MembersOf). z.dealt_lanes < c.args.self.now.plan.sizes.lanes) (sym c.members.view_is) c.requires.more)) (ap known_sat c.split_seat-seat.ensures.2) (ap known_sat c.split_seat-seat.ensures.4))).0, omega (arith, low), c.members.invariant.2, (dealt_producer c.members.inside.plan c.members.inside.dealt_lanes c.members.inside.dealt_workers c.members.inside.seat.me c.split_seat-seat.new.seat.me c.split_seat-seat.result.me c.members.invariant.3 (subst (λ (p : Plan). c.members.inside.dealt_lanes < p.sizes.lanes) (sym (ap (λ (x : LanesId). x.plan) (ap (λ (x : MembersOf). x.id) c.members.view_is ∙ c.requires.members))) (subst (λ (z : MembersOf). z.dealt_lanes < c.args.self.now.plan.sizes.lanes) (sym c.members.view_is) c.requires.more)) c.split_seat-seat.ensures.2 c.split_seat-seat.ensures.4).0)

pub invariant_of-result : goal.invariant_of-result
invariant_of-result c =
    let same : c.members.inside.plan ≡ c.self.inside.plan = ap (λ (x : LanesId). x.plan) (ap (λ (x : MembersOf). x.id) c.members.view_is ∙ (c.requires.members ∙ sym c.self.view_is)) in (
      subst (λ (p : Plan). IsLane p c.members.inside.dealt_lanes 0 (known_sat c.split_seat-seat.result.me)) same (dealt_lane c.members.inside.plan c.members.inside.dealt_lanes c.members.inside.dealt_workers (known_sat c.members.inside.seat.me) (known_sat c.split_seat-seat.new.seat.me) (known_sat c.split_seat-seat.result.me) c.members.invariant.0 (subst (λ (p : Plan). c.members.inside.dealt_lanes < p.sizes.lanes) (sym (ap (λ (x : LanesId). x.plan) (ap (λ (x : MembersOf). x.id) c.members.view_is ∙ c.requires.members))) (subst (λ (z : MembersOf). z.dealt_lanes < c.args.self.now.plan.sizes.lanes) (sym c.members.view_is) c.requires.more)) (ap known_sat c.split_seat-seat.ensures.2) (ap known_sat c.split_seat-seat.ensures.4)).2,
      omega arith,
      subst (λ (p : Plan). IsProducer p c.members.inside.dealt_lanes c.split_seat-seat.result.me) same (dealt_producer c.members.inside.plan c.members.inside.dealt_lanes c.members.inside.dealt_workers c.members.inside.seat.me c.split_seat-seat.new.seat.me c.split_seat-seat.result.me c.members.invariant.3 (subst (λ (p : Plan). c.members.inside.dealt_lanes < p.sizes.lanes) (sym (ap (λ (x : LanesId). x.plan) (ap (λ (x : MembersOf). x.id) c.members.view_is ∙ c.requires.members))) (subst (λ (z : MembersOf). z.dealt_lanes < c.args.self.now.plan.sizes.lanes) (sym c.members.view_is) c.requires.more)) c.split_seat-seat.ensures.2 c.split_seat-seat.ensures.4).1,
      dealt_idle c.members.inside.plan c.members.inside.dealt_lanes c.members.inside.dealt_workers c.members.inside.seat.me c.split_seat-seat.result.me c.members.invariant.3 (subst (λ (p : Plan). c.members.inside.dealt_lanes < p.sizes.lanes) (sym (ap (λ (x : LanesId). x.plan) (ap (λ (x : MembersOf). x.id) c.members.view_is ∙ c.requires.members))) (subst (λ (z : MembersOf). z.dealt_lanes < c.args.self.now.plan.sizes.lanes) (sym c.members.view_is) c.requires.more)) c.split_seat-seat.ensures.4 ∙ sym (over_idle (word_count c.self.inside.plan.sleepers) c.word_count.result (omega (arith, c.word_count.ensures.count))),
    )

pub returns-clause-fresh : goal.returns-clause-fresh
returns-clause-fresh c =
    ap (λ (z : Sat). lane_in z.0.lanes) (dealt_lane c.members.inside.plan c.members.inside.dealt_lanes c.members.inside.dealt_workers (known_sat c.members.inside.seat.me) (known_sat c.split_seat-seat.new.seat.me) (known_sat c.split_seat-seat.result.me) c.members.invariant.0 (subst (λ (p : Plan). c.members.inside.dealt_lanes < p.sizes.lanes) (sym (ap (λ (x : LanesId). x.plan) (ap (λ (x : MembersOf). x.id) c.members.view_is ∙ c.requires.members))) (subst (λ (z : MembersOf). z.dealt_lanes < c.args.self.now.plan.sizes.lanes) (sym c.members.view_is) c.requires.more)) (ap known_sat c.split_seat-seat.ensures.2) (ap known_sat c.split_seat-seat.ensures.4)).1
    ∙ (ap (λ (p : Plan). fresh_lane p.sizes.capacity c.members.inside.dealt_lanes) (ap (λ (x : LanesId). x.plan) (ap (λ (x : MembersOf). x.id) c.members.view_is ∙ c.requires.members))
    ∙ ap (λ (z : MembersOf). fresh_lane c.args.self.now.plan.sizes.capacity z.dealt_lanes) c.members.view_is)
