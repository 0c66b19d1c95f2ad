use Rattle.std.proofs.Common.{rules, subst, ◌∙◌, sym, ap, arith}
use Rattle.lanes.specs.Inner.Pool.{IsSleeper, known_sat, phase_in}
use Rattle.lanes.specs.declared.sizes.Plan.{Plan}
use Rattle.lanes.specs.declared.sizes.TheConstants.{HEAD}
use Rattle.lanes.specs.Lanes.{LanesId}
use Rattle.lanes.specs.Sleep.{SleeperOf}
use Rattle.lanes.specs.Record.{take_of}
use Rattle.lanes.specs.Inner.Step.{IsWorker, takes_at}
use Rattle.lanes.proofs.AskLemmas.{asked_take}
use Rattle.lanes.proofs.LookLemmas.{still_here}
use Rattle.wake_pool.specs.declared.phase.WakePhase.{WakePhase as Phase}
use Rattle.wake_pool.specs.declared.phase.WakePhase.TheVariants.{Idle}
use Rattle.lanes.proofs.WorkerSteps.{took, take_step}
use Rattle.lanes.specs.declared.record.TakeRecord.{TakeRecord}
use Rattle.lanes.proofs.lanes.Lanes.take_idle.Goals as goal

pub compare_exchange-found-requires : goal.compare_exchange-found-requires
compare_exchange-found-requires c =
    let m = (known_sat c.sleeper.inside.seat.me) in
    let known = ap (λ (x : SleeperOf). take_of c.args.lane x.known) c.sleeper.view_is in
    asked_take (λ (p : Plan). IsWorker p c.sleeper.inside.number c.sleeper.inside.tails.items m × IsSleeper p c.sleeper.inside.number Idle c.sleeper.inside.seat.me) _ _ _ _ c.sleeper.inside.seat.id c.word-head.result c.args.job.seq c.args.lane c.sleeper.inside.number c.sleeper.inside.seat.me (λ st. takes_at st m)
    (ap (λ (x : SleeperOf). x.id) c.sleeper.view_is ∙ c.requires.head.id) c.self.view_is c.self.invariant.2 (c.sleeper.invariant.0, subst (λ (q : Phase). IsSleeper c.sleeper.inside.plan c.sleeper.inside.number q c.sleeper.inside.seat.me) (ap (λ (x : SleeperOf). x.phase) c.sleeper.view_is ∙ c.requires.phase) c.sleeper.invariant.1) c.word-head.ensures.inside c.word-head.ensures.word c.requires.head.inside (λ is. is.1)
    (λ n is. take_step _ n _ _ _ m is.0 c.args.lane c.requires.head.inside c.word-head.result c.args.job.seq c.args.job.payload c.args.job.dim c.word-head.ensures.word (c.requires.head.head ∙ sym (ap (λ (t : TakeRecord). t.head) known)) (ap (λ (t : TakeRecord). t.payload) known ∙ c.requires.payload) (ap (λ (t : TakeRecord). t.dim) known ∙ c.requires.dim))

pub invariant_of-sleeper : goal.invariant_of-sleeper
invariant_of-sleeper c = (
  (took c.sleeper.inside.plan c.args.self.now.plan c.sleeper.inside.number c.sleeper.inside.tails.items (known_sat c.sleeper.inside.seat.me) (known_sat c.compare_exchange-found.new.seat.me) c.args.sleeper.now.known c.args.lane c.word-head.result HEAD c.sleeper.invariant.0 (ap (λ (x : SleeperOf). x.known) c.sleeper.view_is) (ap (λ (x : LanesId). x.plan) (ap (λ (x : SleeperOf). x.id) c.sleeper.view_is ∙ c.requires.head.id)) c.requires.head.inside c.word-head.ensures.word (omega arith) c.compare_exchange-found.result c.args.job.seq c.args.job.payload c.args.job.dim c.requires.payload c.requires.dim c.compare_exchange-found.ensures.2.0).0,
  still_here c.sleeper.inside.plan c.sleeper.inside.number c.sleeper.inside.seat.me c.compare_exchange-found.new.seat.me c.sleeper.invariant.1 c.compare_exchange-found.ensures.2.1,
)

pub returns-clause-stays : goal.returns-clause-stays
returns-clause-stays c = record {
  id = search rules;
  deeds = search rules;
  only = (took c.sleeper.inside.plan c.args.self.now.plan c.sleeper.inside.number c.sleeper.inside.tails.items (known_sat c.sleeper.inside.seat.me) (known_sat c.compare_exchange-found.new.seat.me) c.args.sleeper.now.known c.args.lane c.word-head.result HEAD c.sleeper.invariant.0 (ap (λ (x : SleeperOf). x.known) c.sleeper.view_is) (ap (λ (x : LanesId). x.plan) (ap (λ (x : SleeperOf). x.id) c.sleeper.view_is ∙ c.requires.head.id)) c.requires.head.inside c.word-head.ensures.word (omega arith) c.compare_exchange-found.result c.args.job.seq c.args.job.payload c.args.job.dim c.requires.payload c.requires.dim c.compare_exchange-found.ensures.2.0).1;
}

pub returns-clause-take : goal.returns-clause-take
returns-clause-take c = (took c.sleeper.inside.plan c.args.self.now.plan c.sleeper.inside.number c.sleeper.inside.tails.items (known_sat c.sleeper.inside.seat.me) (known_sat c.compare_exchange-found.new.seat.me) c.args.sleeper.now.known c.args.lane c.word-head.result HEAD c.sleeper.invariant.0 (ap (λ (x : SleeperOf). x.known) c.sleeper.view_is) (ap (λ (x : LanesId). x.plan) (ap (λ (x : SleeperOf). x.id) c.sleeper.view_is ∙ c.requires.head.id)) c.requires.head.inside c.word-head.ensures.word (omega arith) c.compare_exchange-found.result c.args.job.seq c.args.job.payload c.args.job.dim c.requires.payload c.requires.dim c.compare_exchange-found.ensures.2.0).2

pub returns-clause-phase : goal.returns-clause-phase
returns-clause-phase c = ap phase_in c.compare_exchange-found.ensures.2.1.0 ∙ (ap (λ (x : SleeperOf). x.phase) c.sleeper.view_is ∙ c.requires.phase)
