use Rattle.std.proofs.Common.{rules, ◌∙◌, refl, ap, arith}
use Rattle.lanes.specs.Inner.Pool.{known_sat, phase_in}
use Rattle.lanes.specs.declared.sizes.Plan.{Plan}
use Rattle.lanes.specs.declared.sizes.TheConstants.{HEAD}
use Rattle.lanes.specs.Lanes.{LanesId}
use Rattle.lanes.specs.Sleep.{SleeperOf}
use Rattle.lanes.specs.Record.{after_head}
use Rattle.lanes.specs.Inner.Step.{IsWorker, reads_head_at}
use Rattle.lanes.proofs.AskLemmas.{asked_read}
use Rattle.lanes.proofs.LookLemmas.{still_here}
use Rattle.lanes.proofs.WorkerSteps.{moves, read_head_step}
use Rattle.lanes.proofs.lanes.Lanes.head_of.Goals as goal

pub load-requires : goal.load-requires
load-requires c =
    let m = (known_sat c.sleeper.inside.seat.me) in
    asked_read (λ (p : Plan). IsWorker p c.sleeper.inside.number c.sleeper.inside.tails.items m) _ _ _ _ c.sleeper.inside.seat.id c.word-head.result 0 0 c.sleeper.inside.seat.me (λ st. reads_head_at st m)
    (ap (λ (x : SleeperOf). x.id) c.sleeper.view_is ∙ c.requires.id) c.self.view_is c.self.invariant.2 c.sleeper.invariant.0 c.word-head.ensures.inside
    (λ n is. read_head_step _ n _ _ _ m is c.args.lane c.requires.lane c.word-head.result c.word-head.ensures.word)

pub invariant_of-sleeper : goal.invariant_of-sleeper
invariant_of-sleeper c = (
  (moves c.sleeper.inside.plan c.args.self.now.plan c.sleeper.inside.number c.sleeper.inside.tails.items (known_sat c.sleeper.inside.seat.me) (known_sat c.load.new.seat.me) c.args.sleeper.now.known c.args.lane c.word-head.result HEAD c.sleeper.invariant.0 (ap (λ (x : SleeperOf). x.known) c.sleeper.view_is) (ap (λ (x : LanesId). x.plan) (ap (λ (x : SleeperOf). x.id) c.sleeper.view_is ∙ c.requires.id)) c.requires.lane c.word-head.ensures.word (omega arith) (after_head c.load.result) refl c.load.ensures.2.0).worker,
  still_here c.sleeper.inside.plan c.sleeper.inside.number c.sleeper.inside.seat.me c.load.new.seat.me c.sleeper.invariant.1 c.load.ensures.2.1,
)

pub returns-clause-stays : goal.returns-clause-stays
returns-clause-stays c = record {
  id = search rules;
  deeds = search rules;
  only = (moves c.sleeper.inside.plan c.args.self.now.plan c.sleeper.inside.number c.sleeper.inside.tails.items (known_sat c.sleeper.inside.seat.me) (known_sat c.load.new.seat.me) c.args.sleeper.now.known c.args.lane c.word-head.result HEAD c.sleeper.invariant.0 (ap (λ (x : SleeperOf). x.known) c.sleeper.view_is) (ap (λ (x : LanesId). x.plan) (ap (λ (x : SleeperOf). x.id) c.sleeper.view_is ∙ c.requires.id)) c.requires.lane c.word-head.ensures.word (omega arith) (after_head c.load.result) refl c.load.ensures.2.0).only;
}

pub returns-clause-take : goal.returns-clause-take
returns-clause-take c = (moves c.sleeper.inside.plan c.args.self.now.plan c.sleeper.inside.number c.sleeper.inside.tails.items (known_sat c.sleeper.inside.seat.me) (known_sat c.load.new.seat.me) c.args.sleeper.now.known c.args.lane c.word-head.result HEAD c.sleeper.invariant.0 (ap (λ (x : SleeperOf). x.known) c.sleeper.view_is) (ap (λ (x : LanesId). x.plan) (ap (λ (x : SleeperOf). x.id) c.sleeper.view_is ∙ c.requires.id)) c.requires.lane c.word-head.ensures.word (omega arith) (after_head c.load.result) refl c.load.ensures.2.0).take

pub returns-clause-same : goal.returns-clause-same
returns-clause-same c = ap phase_in c.load.ensures.2.1.0 ∙ ap (λ (x : SleeperOf). x.phase) c.sleeper.view_is
