use Rattle.std.proofs.Common.{sym, ap, subst, ◌∙◌, ◌<◌, arith}
use Rattle.std.specs.Prelude.{replicate}
use Rattle.wake_pool.specs.declared.phase.WakePhase.{WakePhase as Phase}
use Rattle.wake_pool.specs.declared.phase.WakePhase.TheVariants.{Idle}
use Rattle.lanes.specs.Inner.Pool.{IsSleeper, known_sat, phase_in}
use Rattle.lanes.specs.declared.sizes.Plan.{Plan}
use Rattle.lanes.specs.Lanes.{LanesId, MembersOf}
use Rattle.lanes.specs.Record.{fresh_worker}
use Rattle.lanes.specs.Inner.Step.{Sat, IsWorker, worker_in}
use Rattle.lanes.proofs.LayoutLemmas.{lane-inside}
use Rattle.lanes.proofs.PoolLemmas.{deals_worker_both}
use Rattle.lanes.proofs.AskLemmas.{dealt_sleeper}
use Rattle.lanes.proofs.DealLemmas.{deals_worker, dealt_worker}
use Rattle.lanes.proofs.lanes.Lanes.seat_sleeper.Goals as goal

pub split_seat-seat-requires : goal.split_seat-seat-requires
split_seat-seat-requires c =
    let plan = c.self.inside.plan in
    (ap (λ (x : LanesId). x.table) (ap (λ (x : MembersOf). x.id) c.members.view_is ∙ (c.requires.members ∙ sym c.self.view_is)), omega (arith, c.self.invariant.0, lane-inside plan 0 0 c.self.invariant.4 (omega arith)), deals_worker_both c.self.inside.table.shared.key c.members.inside.seat.id c.members.inside.seat.me.0 (deals_worker c.self.inside.table.shared.key _ _))

pub invariant_of-members : goal.invariant_of-members
invariant_of-members c =
    let low = (subst (λ (p : Plan). c.members.inside.dealt_workers < p.sizes.workers) (sym (ap (λ (x : LanesId). x.plan) (ap (λ (x : MembersOf). x.id) c.members.view_is ∙ c.requires.members))) (subst (λ (z : MembersOf). z.dealt_workers < c.args.self.now.plan.sizes.workers) (sym c.members.view_is) c.requires.more)) in
    (((dealt_worker c.members.inside.plan c.members.inside.dealt_lanes c.members.inside.dealt_workers c.args.tails.items (known_sat c.members.inside.seat.me) (known_sat c.split_seat-seat.new.seat.me) (known_sat c.split_seat-seat.result.me) c.members.invariant.0 (subst (λ (p : Plan). c.members.inside.dealt_workers < p.sizes.workers) (sym (ap (λ (x : LanesId). x.plan) (ap (λ (x : MembersOf). x.id) c.members.view_is ∙ c.requires.members))) (subst (λ (z : MembersOf). z.dealt_workers < c.args.self.now.plan.sizes.workers) (sym c.members.view_is) c.requires.more)) (c.requires.tails ∙ ap (λ (p : Plan). replicate p.sizes.lanes 0) (sym (ap (λ (x : LanesId). x.plan) (ap (λ (x : MembersOf). x.id) c.members.view_is ∙ c.requires.members)))) (ap known_sat c.split_seat-seat.ensures.2) (ap known_sat c.split_seat-seat.ensures.4))).0, c.members.invariant.1, omega (arith, low), (dealt_sleeper c.members.inside.plan c.members.inside.dealt_lanes c.members.inside.dealt_workers c.members.inside.seat.me c.split_seat-seat.new.seat.me c.split_seat-seat.result.me c.members.invariant.3 (subst (λ (p : Plan). c.members.inside.dealt_workers < p.sizes.workers) (sym (ap (λ (x : LanesId). x.plan) (ap (λ (x : MembersOf). x.id) c.members.view_is ∙ c.requires.members))) (subst (λ (z : MembersOf). z.dealt_workers < c.args.self.now.plan.sizes.workers) (sym c.members.view_is) c.requires.more)) c.split_seat-seat.ensures.2 c.split_seat-seat.ensures.4).0)

pub invariant_of-result : goal.invariant_of-result
invariant_of-result c = (
  subst (λ (p : Plan). IsWorker p c.members.inside.dealt_workers c.args.tails.items (known_sat c.split_seat-seat.result.me)) ((ap (λ (x : LanesId). x.plan) (ap (λ (x : MembersOf). x.id) c.members.view_is ∙ c.requires.members)) ∙ sym (ap (λ (x : LanesId). x.plan) c.self.view_is)) (dealt_worker c.members.inside.plan c.members.inside.dealt_lanes c.members.inside.dealt_workers c.args.tails.items (known_sat c.members.inside.seat.me) (known_sat c.split_seat-seat.new.seat.me) (known_sat c.split_seat-seat.result.me) c.members.invariant.0 (subst (λ (p : Plan). c.members.inside.dealt_workers < p.sizes.workers) (sym (ap (λ (x : LanesId). x.plan) (ap (λ (x : MembersOf). x.id) c.members.view_is ∙ c.requires.members))) (subst (λ (z : MembersOf). z.dealt_workers < c.args.self.now.plan.sizes.workers) (sym c.members.view_is) c.requires.more)) (c.requires.tails ∙ ap (λ (p : Plan). replicate p.sizes.lanes 0) (sym (ap (λ (x : LanesId). x.plan) (ap (λ (x : MembersOf). x.id) c.members.view_is ∙ c.requires.members)))) (ap known_sat c.split_seat-seat.ensures.2) (ap known_sat c.split_seat-seat.ensures.4)).2,
  let is = subst (λ (p : Plan). IsSleeper p c.members.inside.dealt_workers Idle c.split_seat-seat.result.me) ((ap (λ (x : LanesId). x.plan) (ap (λ (x : MembersOf). x.id) c.members.view_is ∙ c.requires.members)) ∙ sym (ap (λ (x : LanesId). x.plan) c.self.view_is)) (dealt_sleeper c.members.inside.plan c.members.inside.dealt_lanes c.members.inside.dealt_workers c.members.inside.seat.me c.split_seat-seat.new.seat.me c.split_seat-seat.result.me c.members.invariant.3 (subst (λ (p : Plan). c.members.inside.dealt_workers < p.sizes.workers) (sym (ap (λ (x : LanesId). x.plan) (ap (λ (x : MembersOf). x.id) c.members.view_is ∙ c.requires.members))) (subst (λ (z : MembersOf). z.dealt_workers < c.args.self.now.plan.sizes.workers) (sym c.members.view_is) c.requires.more)) c.split_seat-seat.ensures.2 c.split_seat-seat.ensures.4).1 in subst (λ (q : Phase). IsSleeper c.self.inside.plan c.members.inside.dealt_workers q c.split_seat-seat.result.me) (sym (ap phase_in is.thread)) is,
)

pub returns-clause-fresh : goal.returns-clause-fresh
returns-clause-fresh c =
    let number = ap (λ (x : MembersOf). x.dealt_workers) c.members.view_is in
    ap (λ (m : Sat). worker_in m.0.workers) (dealt_worker c.members.inside.plan c.members.inside.dealt_lanes c.members.inside.dealt_workers c.args.tails.items (known_sat c.members.inside.seat.me) (known_sat c.split_seat-seat.new.seat.me) (known_sat c.split_seat-seat.result.me) c.members.invariant.0 (subst (λ (p : Plan). c.members.inside.dealt_workers < p.sizes.workers) (sym (ap (λ (x : LanesId). x.plan) (ap (λ (x : MembersOf). x.id) c.members.view_is ∙ c.requires.members))) (subst (λ (z : MembersOf). z.dealt_workers < c.args.self.now.plan.sizes.workers) (sym c.members.view_is) c.requires.more)) (c.requires.tails ∙ ap (λ (p : Plan). replicate p.sizes.lanes 0) (sym (ap (λ (x : LanesId). x.plan) (ap (λ (x : MembersOf). x.id) c.members.view_is ∙ c.requires.members)))) (ap known_sat c.split_seat-seat.ensures.2) (ap known_sat c.split_seat-seat.ensures.4)).1 ∙ (ap (λ (p : Plan). fresh_worker p c.members.inside.dealt_workers) (ap (λ (x : LanesId). x.plan) (ap (λ (x : MembersOf). x.id) c.members.view_is ∙ c.requires.members)) ∙ ap (fresh_worker c.args.self.now.plan) number)

pub returns-clause-idle : goal.returns-clause-idle
returns-clause-idle c = ap phase_in (subst (λ (p : Plan). IsSleeper p c.members.inside.dealt_workers Idle c.split_seat-seat.result.me) ((ap (λ (x : LanesId). x.plan) (ap (λ (x : MembersOf). x.id) c.members.view_is ∙ c.requires.members)) ∙ sym (ap (λ (x : LanesId). x.plan) c.self.view_is)) (dealt_sleeper c.members.inside.plan c.members.inside.dealt_lanes c.members.inside.dealt_workers c.members.inside.seat.me c.split_seat-seat.new.seat.me c.split_seat-seat.result.me c.members.invariant.3 (subst (λ (p : Plan). c.members.inside.dealt_workers < p.sizes.workers) (sym (ap (λ (x : LanesId). x.plan) (ap (λ (x : MembersOf). x.id) c.members.view_is ∙ c.requires.members))) (subst (λ (z : MembersOf). z.dealt_workers < c.args.self.now.plan.sizes.workers) (sym c.members.view_is) c.requires.more)) c.split_seat-seat.ensures.2 c.split_seat-seat.ensures.4).1).thread
