use Rattle.std.proofs.Common.{rules, ℕ, List, true, false, subst, ◌∙◌, sym, ap, arith}
use Rattle.lanes.specs.Inner.Pool.{known_sat, looked, LooksAt}
use Rattle.lanes.specs.declared.sizes.TheConstants.{TAIL}
use Rattle.lanes.specs.Lanes.{LanesId}
use Rattle.lanes.specs.declared.record.TakeRecord.{TakeRecord}
use Rattle.lanes.specs.Sleep.{SleeperOf}
use Rattle.lanes.specs.Inner.Step.{IsWorker, reads_tail_at}
use Rattle.lanes.proofs.LookLemmas.{asked_look, empty_now, job_now}
use Rattle.lanes.proofs.WorkerSteps.{none_found, some_found, read_tail_step}
use Rattle.lanes.proofs.lanes.Lanes.look_at.Goals as goal

pub load-found-requires : goal.load-found-requires
load-found-requires c =
    let m = (known_sat c.sleeper.inside.seat.me) in
    asked_look c.sleeper.inside.number c.sleeper.inside.tails.items _ _ _ _ c.sleeper.inside.seat.id c.word-tail.result c.args.lane c.sleeper.inside.seat.me (λ st. reads_tail_at st m)
    (ap (λ (x : SleeperOf). x.id) c.sleeper.view_is ∙ c.requires.head.id) c.self.view_is c.self.invariant.2
    (record { worker = c.sleeper.invariant.0; sleeper = c.sleeper.invariant.1; looks = subst (λ (z : SleeperOf). LooksAt z.phase c.args.lane) (sym c.sleeper.view_is) c.requires.looks })
    c.word-tail.ensures.inside c.word-tail.ensures.word c.requires.head.inside
    (λ n is. read_tail_step _ n _ _ _ m is.worker c.args.lane c.requires.head.inside c.word-tail.result c.word-tail.ensures.word)

pub invariant_of-sleeper : goal.invariant_of-sleeper
invariant_of-sleeper c = (
  (none_found c.sleeper.inside.plan c.args.self.now.plan c.sleeper.inside.number c.sleeper.inside.tails.items (known_sat c.sleeper.inside.seat.me) (known_sat c.load-found.new.seat.me) c.args.sleeper.now.known c.args.lane c.word-tail.result TAIL c.sleeper.invariant.0 (ap (λ (x : SleeperOf). x.known) c.sleeper.view_is) (ap (λ (x : LanesId). x.plan) (ap (λ (x : SleeperOf). x.id) c.sleeper.view_is ∙ c.requires.head.id)) c.requires.head.inside c.word-tail.ensures.word (omega arith) c.load-found.result c.count_and_mark-count.result.0 c.args.head c.count_and_mark-count.result.1 c.count_and_mark-count.ensures c.requires.head.head c.if-count-head.true c.load-found.ensures.2.0).worker,
  (empty_now c.sleeper.inside.plan c.args.self.now.plan c.sleeper.inside.number c.sleeper.inside.tails.items c.sleeper.inside.seat.me c.load-found.new.seat.me c.args.sleeper.now.known c.args.lane c.word-tail.result c.args.head c.load-found.result c.count_and_mark-count.result.0 c.count_and_mark-count.result.1 c.sleeper.invariant.0 c.sleeper.invariant.1 (ap (λ (x : SleeperOf). x.known) c.sleeper.view_is) (ap (λ (x : LanesId). x.plan) (ap (λ (x : SleeperOf). x.id) c.sleeper.view_is ∙ c.requires.head.id)) c.word-tail.ensures.word c.requires.head.head (omega (arith, c.load-found.type_inv)) c.count_and_mark-count.ensures c.load-found.ensures.2.1 c.if-count-head.true).sleeper,
)

pub returns-then-count-head-clause-stays : goal.returns-then-count-head-clause-stays
returns-then-count-head-clause-stays c = record {
  id = search rules;
  deeds = search rules;
  only = (none_found c.sleeper.inside.plan c.args.self.now.plan c.sleeper.inside.number c.sleeper.inside.tails.items (known_sat c.sleeper.inside.seat.me) (known_sat c.load-found.new.seat.me) c.args.sleeper.now.known c.args.lane c.word-tail.result TAIL c.sleeper.invariant.0 (ap (λ (x : SleeperOf). x.known) c.sleeper.view_is) (ap (λ (x : LanesId). x.plan) (ap (λ (x : SleeperOf). x.id) c.sleeper.view_is ∙ c.requires.head.id)) c.requires.head.inside c.word-tail.ensures.word (omega arith) c.load-found.result c.count_and_mark-count.result.0 c.args.head c.count_and_mark-count.result.1 c.count_and_mark-count.ensures c.requires.head.head c.if-count-head.true c.load-found.ensures.2.0).only;
}

pub returns-then-count-head-clause-phase : goal.returns-then-count-head-clause-phase
returns-then-count-head-clause-phase c = (empty_now c.sleeper.inside.plan c.args.self.now.plan c.sleeper.inside.number c.sleeper.inside.tails.items c.sleeper.inside.seat.me c.load-found.new.seat.me c.args.sleeper.now.known c.args.lane c.word-tail.result c.args.head c.load-found.result c.count_and_mark-count.result.0 c.count_and_mark-count.result.1 c.sleeper.invariant.0 c.sleeper.invariant.1 (ap (λ (x : SleeperOf). x.known) c.sleeper.view_is) (ap (λ (x : LanesId). x.plan) (ap (λ (x : SleeperOf). x.id) c.sleeper.view_is ∙ c.requires.head.id)) c.word-tail.ensures.word c.requires.head.head (omega (arith, c.load-found.type_inv)) c.count_and_mark-count.ensures c.load-found.ensures.2.1 c.if-count-head.true).phase ∙ ap (λ (x : SleeperOf). looked c.args.self.now.plan x.phase true) c.sleeper.view_is

pub invariant_of-sleeper-2 : goal.invariant_of-sleeper-2
invariant_of-sleeper-2 c = (
  subst (λ (ts : List ℕ). IsWorker c.sleeper.inside.plan c.sleeper.inside.number ts (known_sat c.load-found.new.seat.me)) (sym c.set_tail.ensures) (some_found c.sleeper.inside.plan c.args.self.now.plan c.sleeper.inside.number c.sleeper.inside.tails.items (known_sat c.sleeper.inside.seat.me) (known_sat c.load-found.new.seat.me) c.args.sleeper.now.known c.args.lane c.word-tail.result TAIL c.sleeper.invariant.0 (ap (λ (x : SleeperOf). x.known) c.sleeper.view_is) (ap (λ (x : LanesId). x.plan) (ap (λ (x : SleeperOf). x.id) c.sleeper.view_is ∙ c.requires.head.id)) c.requires.head.inside c.word-tail.ensures.word (omega arith) c.load-found.result c.count_and_mark-count.result.0 c.args.head c.count_and_mark-count.result.1 c.count_and_mark-count.ensures c.requires.head.head c.if-count-head.false c.load-found.ensures.2.0).1.worker,
  (job_now c.sleeper.inside.plan c.args.self.now.plan c.sleeper.inside.number c.sleeper.inside.tails.items c.sleeper.inside.seat.me c.load-found.new.seat.me c.args.sleeper.now.known c.args.lane c.word-tail.result c.args.head c.load-found.result c.count_and_mark-count.result.0 c.count_and_mark-count.result.1 c.sleeper.invariant.0 c.sleeper.invariant.1 (ap (λ (x : SleeperOf). x.known) c.sleeper.view_is) (ap (λ (x : LanesId). x.plan) (ap (λ (x : SleeperOf). x.id) c.sleeper.view_is ∙ c.requires.head.id)) c.word-tail.ensures.word c.requires.head.head (omega (arith, c.load-found.type_inv)) c.count_and_mark-count.ensures c.load-found.ensures.2.1 c.if-count-head.false).sleeper,
)

pub returns-clause-stays : goal.returns-clause-stays
returns-clause-stays c = record {
  id = search rules;
  deeds = search rules;
  only = (some_found c.sleeper.inside.plan c.args.self.now.plan c.sleeper.inside.number c.sleeper.inside.tails.items (known_sat c.sleeper.inside.seat.me) (known_sat c.load-found.new.seat.me) c.args.sleeper.now.known c.args.lane c.word-tail.result TAIL c.sleeper.invariant.0 (ap (λ (x : SleeperOf). x.known) c.sleeper.view_is) (ap (λ (x : LanesId). x.plan) (ap (λ (x : SleeperOf). x.id) c.sleeper.view_is ∙ c.requires.head.id)) c.requires.head.inside c.word-tail.ensures.word (omega arith) c.load-found.result c.count_and_mark-count.result.0 c.args.head c.count_and_mark-count.result.1 c.count_and_mark-count.ensures c.requires.head.head c.if-count-head.false c.load-found.ensures.2.0).1.only;
}

pub returns-clause-phase : goal.returns-clause-phase
returns-clause-phase c = (job_now c.sleeper.inside.plan c.args.self.now.plan c.sleeper.inside.number c.sleeper.inside.tails.items c.sleeper.inside.seat.me c.load-found.new.seat.me c.args.sleeper.now.known c.args.lane c.word-tail.result c.args.head c.load-found.result c.count_and_mark-count.result.0 c.count_and_mark-count.result.1 c.sleeper.invariant.0 c.sleeper.invariant.1 (ap (λ (x : SleeperOf). x.known) c.sleeper.view_is) (ap (λ (x : LanesId). x.plan) (ap (λ (x : SleeperOf). x.id) c.sleeper.view_is ∙ c.requires.head.id)) c.word-tail.ensures.word c.requires.head.head (omega (arith, c.load-found.type_inv)) c.count_and_mark-count.ensures c.load-found.ensures.2.1 c.if-count-head.false).phase ∙ ap (λ (x : SleeperOf). looked c.args.self.now.plan x.phase false) c.sleeper.view_is

pub returns-then-count-head-clause-none : goal.returns-then-count-head-clause-none
returns-then-count-head-clause-none c = let take = (none_found c.sleeper.inside.plan c.args.self.now.plan c.sleeper.inside.number c.sleeper.inside.tails.items (known_sat c.sleeper.inside.seat.me) (known_sat c.load-found.new.seat.me) c.args.sleeper.now.known c.args.lane c.word-tail.result TAIL c.sleeper.invariant.0 (ap (λ (x : SleeperOf). x.known) c.sleeper.view_is) (ap (λ (x : LanesId). x.plan) (ap (λ (x : SleeperOf). x.id) c.sleeper.view_is ∙ c.requires.head.id)) c.requires.head.inside c.word-tail.ensures.word (omega arith) c.load-found.result c.count_and_mark-count.result.0 c.args.head c.count_and_mark-count.result.1 c.count_and_mark-count.ensures c.requires.head.head c.if-count-head.true c.load-found.ensures.2.0).take in (ap (λ (t : TakeRecord). t.taken) take, let steps = ap (λ (t : TakeRecord). t.steps) take in omega (arith, steps))

pub returns-clause-none : goal.returns-clause-none
returns-clause-none c = let take = (some_found c.sleeper.inside.plan c.args.self.now.plan c.sleeper.inside.number c.sleeper.inside.tails.items (known_sat c.sleeper.inside.seat.me) (known_sat c.load-found.new.seat.me) c.args.sleeper.now.known c.args.lane c.word-tail.result TAIL c.sleeper.invariant.0 (ap (λ (x : SleeperOf). x.known) c.sleeper.view_is) (ap (λ (x : LanesId). x.plan) (ap (λ (x : SleeperOf). x.id) c.sleeper.view_is ∙ c.requires.head.id)) c.requires.head.inside c.word-tail.ensures.word (omega arith) c.load-found.result c.count_and_mark-count.result.0 c.args.head c.count_and_mark-count.result.1 c.count_and_mark-count.ensures c.requires.head.head c.if-count-head.false c.load-found.ensures.2.0).1.take in (ap (λ (t : TakeRecord). t.taken) take, let steps = ap (λ (t : TakeRecord). t.steps) take in omega (arith, steps))
