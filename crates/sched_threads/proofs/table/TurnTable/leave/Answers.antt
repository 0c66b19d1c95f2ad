use Rattle.std.proofs.Common.{ap, ◌∙◌, arith}
use Rattle.sched_threads.specs.Step.{Sat}
use Rattle.sched_threads.proofs.StepLemmas.{leaves_step}
use Rattle.sched_threads.proofs.table.TurnTable.leave.Goals as goal

pub store-requires : goal.store-requires
store-requires c = let t = c.requires.out in (
  c.requires.table,
  omega (arith, c.args.self.now.sized.0),
  leaves_step _ _ c.args.self.now.sized.1 _ _ t.0 t.1 t.2 t.3,
)

pub of-requires : goal.of-requires
of-requires c = let t = c.requires.out in ap (λ (m : Sat). m.1) (c.store.ensures.2 t.0 t.1 t.2).1

pub returns-clause-noted : goal.returns-clause-noted
returns-clause-noted c = λ x y out.
    let left = c.store.ensures.2 x y out in
    (left.0, c.of.ensures.me ∙ left.1)
