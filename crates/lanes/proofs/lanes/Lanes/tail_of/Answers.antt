use Rattle.std.proofs.Common.{rules, ℕ, List, subst, ◌∙◌, sym, ap, arith}
use Rattle.lanes.specs.Inner.Pool.{known_sat, phase_in}
use Rattle.lanes.specs.declared.sizes.Plan.{Plan}
use Rattle.lanes.specs.declared.sizes.TheConstants.{TAIL}
use Rattle.lanes.specs.Lanes.{LanesId}
use Rattle.lanes.specs.Sleep.{SleeperOf}
use Rattle.lanes.specs.Inner.Step.{IsWorker, reads_tail_at}
use Rattle.lanes.proofs.AskLemmas.{asked_read}
use Rattle.lanes.proofs.LookLemmas.{still_here}
use Rattle.lanes.proofs.WorkerSteps.{none_found, some_found, read_tail_step}
use Rattle.lanes.proofs.lanes.Lanes.tail_of.Goals as goal

pub load-found-requires : goal.load-found-requires
load-found-requires c =
    let m = (known_sat c.sleeper.inside.seat.me) in
    asked_read (λ (p : Plan). IsWorker p c.sleeper.inside.number c.sleeper.inside.tails.items m) _ _ _ _ c.sleeper.inside.seat.id c.word-tail.result 0 0 c.sleeper.inside.seat.me (λ st. reads_tail_at st m)
    (ap (λ (x : SleeperOf). x.id) c.sleeper.view_is ∙ c.requires.head.id) c.self.view_is c.self.invariant.2 c.sleeper.invariant.0 c.word-tail.ensures.inside
    (λ n is. read_tail_step _ n _ _ _ m is c.args.lane c.requires.head.inside c.word-tail.result c.word-tail.ensures.word)

pub invariant_of-sleeper : goal.invariant_of-sleeper
invariant_of-sleeper c = (
  (none_found c.sleeper.inside.plan c.args.self.now.plan c.sleeper.inside.number c.sleeper.inside.tails.items (known_sat c.sleeper.inside.seat.me) (known_sat c.load-found.new.seat.me) c.args.sleeper.now.known c.args.lane c.word-tail.result TAIL c.sleeper.invariant.0 (ap (λ (x : SleeperOf). x.known) c.sleeper.view_is) (ap (λ (x : LanesId). x.plan) (ap (λ (x : SleeperOf). x.id) c.sleeper.view_is ∙ c.requires.head.id)) c.requires.head.inside c.word-tail.ensures.word (omega arith) c.load-found.result c.count_and_mark-count.result.0 c.args.head c.count_and_mark-count.result.1 c.count_and_mark-count.ensures c.requires.head.head c.if-count-head.true c.load-found.ensures.2.0).worker,
  still_here c.sleeper.inside.plan c.sleeper.inside.number c.sleeper.inside.seat.me c.load-found.new.seat.me c.sleeper.invariant.1 c.load-found.ensures.2.1,
)

pub returns-then-count-head-clause-stays : goal.returns-then-count-head-clause-stays
returns-then-count-head-clause-stays c = record {
  id = search rules;
  deeds = search rules;
  only = (none_found c.sleeper.inside.plan c.args.self.now.plan c.sleeper.inside.number c.sleeper.inside.tails.items (known_sat c.sleeper.inside.seat.me) (known_sat c.load-found.new.seat.me) c.args.sleeper.now.known c.args.lane c.word-tail.result TAIL c.sleeper.invariant.0 (ap (λ (x : SleeperOf). x.known) c.sleeper.view_is) (ap (λ (x : LanesId). x.plan) (ap (λ (x : SleeperOf). x.id) c.sleeper.view_is ∙ c.requires.head.id)) c.requires.head.inside c.word-tail.ensures.word (omega arith) c.load-found.result c.count_and_mark-count.result.0 c.args.head c.count_and_mark-count.result.1 c.count_and_mark-count.ensures c.requires.head.head c.if-count-head.true c.load-found.ensures.2.0).only;
}

pub returns-then-count-head-clause-none : goal.returns-then-count-head-clause-none
returns-then-count-head-clause-none c = (none_found c.sleeper.inside.plan c.args.self.now.plan c.sleeper.inside.number c.sleeper.inside.tails.items (known_sat c.sleeper.inside.seat.me) (known_sat c.load-found.new.seat.me) c.args.sleeper.now.known c.args.lane c.word-tail.result TAIL c.sleeper.invariant.0 (ap (λ (x : SleeperOf). x.known) c.sleeper.view_is) (ap (λ (x : LanesId). x.plan) (ap (λ (x : SleeperOf). x.id) c.sleeper.view_is ∙ c.requires.head.id)) c.requires.head.inside c.word-tail.ensures.word (omega arith) c.load-found.result c.count_and_mark-count.result.0 c.args.head c.count_and_mark-count.result.1 c.count_and_mark-count.ensures c.requires.head.head c.if-count-head.true c.load-found.ensures.2.0).take

pub invariant_of-sleeper-2 : goal.invariant_of-sleeper-2
invariant_of-sleeper-2 c = (
  subst (λ (ts : List ℕ). IsWorker c.sleeper.inside.plan c.sleeper.inside.number ts (known_sat c.load-found.new.seat.me)) (sym c.set_tail.ensures) (some_found c.sleeper.inside.plan c.args.self.now.plan c.sleeper.inside.number c.sleeper.inside.tails.items (known_sat c.sleeper.inside.seat.me) (known_sat c.load-found.new.seat.me) c.args.sleeper.now.known c.args.lane c.word-tail.result TAIL c.sleeper.invariant.0 (ap (λ (x : SleeperOf). x.known) c.sleeper.view_is) (ap (λ (x : LanesId). x.plan) (ap (λ (x : SleeperOf). x.id) c.sleeper.view_is ∙ c.requires.head.id)) c.requires.head.inside c.word-tail.ensures.word (omega arith) c.load-found.result c.count_and_mark-count.result.0 c.args.head c.count_and_mark-count.result.1 c.count_and_mark-count.ensures c.requires.head.head c.if-count-head.false c.load-found.ensures.2.0).1.worker,
  still_here c.sleeper.inside.plan c.sleeper.inside.number c.sleeper.inside.seat.me c.load-found.new.seat.me c.sleeper.invariant.1 c.load-found.ensures.2.1,
)

pub returns-clause-stays : goal.returns-clause-stays
returns-clause-stays c = record {
  id = search rules;
  deeds = search rules;
  only = (some_found c.sleeper.inside.plan c.args.self.now.plan c.sleeper.inside.number c.sleeper.inside.tails.items (known_sat c.sleeper.inside.seat.me) (known_sat c.load-found.new.seat.me) c.args.sleeper.now.known c.args.lane c.word-tail.result TAIL c.sleeper.invariant.0 (ap (λ (x : SleeperOf). x.known) c.sleeper.view_is) (ap (λ (x : LanesId). x.plan) (ap (λ (x : SleeperOf). x.id) c.sleeper.view_is ∙ c.requires.head.id)) c.requires.head.inside c.word-tail.ensures.word (omega arith) c.load-found.result c.count_and_mark-count.result.0 c.args.head c.count_and_mark-count.result.1 c.count_and_mark-count.ensures c.requires.head.head c.if-count-head.false c.load-found.ensures.2.0).1.only;
}

pub returns-clause-some : goal.returns-clause-some
returns-clause-some c = let found = (some_found c.sleeper.inside.plan c.args.self.now.plan c.sleeper.inside.number c.sleeper.inside.tails.items (known_sat c.sleeper.inside.seat.me) (known_sat c.load-found.new.seat.me) c.args.sleeper.now.known c.args.lane c.word-tail.result TAIL c.sleeper.invariant.0 (ap (λ (x : SleeperOf). x.known) c.sleeper.view_is) (ap (λ (x : LanesId). x.plan) (ap (λ (x : SleeperOf). x.id) c.sleeper.view_is ∙ c.requires.head.id)) c.requires.head.inside c.word-tail.ensures.word (omega arith) c.load-found.result c.count_and_mark-count.result.0 c.args.head c.count_and_mark-count.result.1 c.count_and_mark-count.ensures c.requires.head.head c.if-count-head.false c.load-found.ensures.2.0) in (found.0, found.1.take)

pub returns-then-count-head-clause-same : goal.returns-then-count-head-clause-same
returns-then-count-head-clause-same c = ap phase_in c.load-found.ensures.2.1.0 ∙ ap (λ (x : SleeperOf). x.phase) c.sleeper.view_is

pub returns-clause-same : goal.returns-clause-same
returns-clause-same c = ap phase_in c.load-found.ensures.2.1.0 ∙ ap (λ (x : SleeperOf). x.phase) c.sleeper.view_is
