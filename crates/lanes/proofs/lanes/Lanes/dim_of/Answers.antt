use Rattle.std.proofs.Common.{rules, ◌+◌, ◌%◌, ◌^◌, subst, ◌<◌, ◌∙◌, sym, refl, ap, arith}
use Rattle.lanes.specs.Inner.Pool.{known_sat, phase_in}
use Rattle.lanes.specs.declared.sizes.Plan.{Plan}
use Rattle.lanes.specs.Lanes.{LanesId}
use Rattle.lanes.specs.Sleep.{SleeperOf}
use Rattle.lanes.specs.Record.{take_of, after_dim_cell}
use Rattle.lanes.specs.Inner.Step.{IsWorker, reads_dim_at}
use Rattle.lanes.proofs.AskLemmas.{asked_read}
use Rattle.lanes.proofs.LookLemmas.{still_here}
use Rattle.lanes.proofs.WorkerSteps.{moves, read_dim_step}
use Rattle.lanes.specs.Layout.{lane_start, cell_of}
use Rattle.lanes.specs.declared.record.TakeRecord.{TakeRecord}
use Rattle.lanes.proofs.lanes.Lanes.dim_of.Goals as goal

pub load-found-requires : goal.load-found-requires
load-found-requires c =
    let m = (known_sat c.sleeper.inside.seat.me) in
    let known = ap (λ (x : SleeperOf). take_of c.args.lane x.known) c.sleeper.view_is in
    asked_read (λ (p : Plan). IsWorker p c.sleeper.inside.number c.sleeper.inside.tails.items m) _ _ _ _ c.sleeper.inside.seat.id c.word-word.result 0 0 c.sleeper.inside.seat.me (λ st. reads_dim_at st m)
    (ap (λ (x : SleeperOf). x.id) c.sleeper.view_is ∙ c.requires.head.id) c.self.view_is c.self.invariant.2 c.sleeper.invariant.0 c.word-word.ensures.inside
    (λ n is. read_dim_step _ n _ _ _ m is c.args.lane c.requires.head.inside c.word-word.result c.args.head (subst (λ (p : Plan). 0 < p.sizes.capacity) (ap (λ (x : LanesId). x.plan) c.self.view_is) c.self.invariant.3.some_room) (c.word-word.ensures.word ∙ ap (λ o. lane_start c.args.self.now.plan c.args.lane + (o + 1)) c.requires.cell) (c.requires.head.head ∙ sym (ap (λ (t : TakeRecord). t.head) known)) (omega (arith, c.requires.head.head, c.requires.some, ap (λ (t : TakeRecord). t.head) known, ap (λ (t : TakeRecord). t.tail) known)))

pub invariant_of-sleeper : goal.invariant_of-sleeper
invariant_of-sleeper c = (
  (moves c.sleeper.inside.plan c.args.self.now.plan c.sleeper.inside.number c.sleeper.inside.tails.items (known_sat c.sleeper.inside.seat.me) (known_sat c.load-found.new.seat.me) c.args.sleeper.now.known c.args.lane c.word-word.result (cell_of c.args.self.now.plan.sizes.capacity c.args.head + 1) c.sleeper.invariant.0 (ap (λ (x : SleeperOf). x.known) c.sleeper.view_is) (ap (λ (x : LanesId). x.plan) (ap (λ (x : SleeperOf). x.id) c.sleeper.view_is ∙ c.requires.head.id)) c.requires.head.inside (c.word-word.ensures.word ∙ ap (λ o. lane_start c.args.self.now.plan c.args.lane + (o + 1)) c.requires.cell) (omega (arith, c.requires.inside, c.requires.cell)) (after_dim_cell (c.load-found.result % 2 ^ 32)) refl c.load-found.ensures.2.0).worker,
  still_here c.sleeper.inside.plan c.sleeper.inside.number c.sleeper.inside.seat.me c.load-found.new.seat.me c.sleeper.invariant.1 c.load-found.ensures.2.1,
)

pub returns-clause-stays : goal.returns-clause-stays
returns-clause-stays c = record {
  id = search rules;
  deeds = search rules;
  only = (moves c.sleeper.inside.plan c.args.self.now.plan c.sleeper.inside.number c.sleeper.inside.tails.items (known_sat c.sleeper.inside.seat.me) (known_sat c.load-found.new.seat.me) c.args.sleeper.now.known c.args.lane c.word-word.result (cell_of c.args.self.now.plan.sizes.capacity c.args.head + 1) c.sleeper.invariant.0 (ap (λ (x : SleeperOf). x.known) c.sleeper.view_is) (ap (λ (x : LanesId). x.plan) (ap (λ (x : SleeperOf). x.id) c.sleeper.view_is ∙ c.requires.head.id)) c.requires.head.inside (c.word-word.ensures.word ∙ ap (λ o. lane_start c.args.self.now.plan c.args.lane + (o + 1)) c.requires.cell) (omega (arith, c.requires.inside, c.requires.cell)) (after_dim_cell (c.load-found.result % 2 ^ 32)) refl c.load-found.ensures.2.0).only;
}

pub returns-clause-take : goal.returns-clause-take
returns-clause-take c = (moves c.sleeper.inside.plan c.args.self.now.plan c.sleeper.inside.number c.sleeper.inside.tails.items (known_sat c.sleeper.inside.seat.me) (known_sat c.load-found.new.seat.me) c.args.sleeper.now.known c.args.lane c.word-word.result (cell_of c.args.self.now.plan.sizes.capacity c.args.head + 1) c.sleeper.invariant.0 (ap (λ (x : SleeperOf). x.known) c.sleeper.view_is) (ap (λ (x : LanesId). x.plan) (ap (λ (x : SleeperOf). x.id) c.sleeper.view_is ∙ c.requires.head.id)) c.requires.head.inside (c.word-word.ensures.word ∙ ap (λ o. lane_start c.args.self.now.plan c.args.lane + (o + 1)) c.requires.cell) (omega (arith, c.requires.inside, c.requires.cell)) (after_dim_cell (c.load-found.result % 2 ^ 32)) refl c.load-found.ensures.2.0).take

pub returns-clause-same : goal.returns-clause-same
returns-clause-same c = ap phase_in c.load-found.ensures.2.1.0 ∙ ap (λ (x : SleeperOf). x.phase) c.sleeper.view_is
