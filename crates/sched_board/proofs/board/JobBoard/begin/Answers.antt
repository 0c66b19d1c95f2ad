-- The worker asks directly after its job is over.
use Rattle.std.proofs.Common.{[], ◌∷◌, sym, subst}
use Rattle.sched_law.specs.Team.Deed.{asks, ends}
use Rattle.sched_board.specs.declared.board.JobBoard.{JobBoard}
use Rattle.sched_board.specs.declared.serving.WorkerStage.{WorkerStage}
use Rattle.sched_board.specs.JobBoard.{Leads}
use Rattle.sched_board.specs.Served.{deeds_of}
use Rattle.sched_board.proofs.FollowLemmas.{leads_then}
use Rattle.sched_board.proofs.board.JobBoard.begin.Goals as goal

pub returns-in-Has-clause-leads : goal.returns-in-Has-clause-leads
returns-in-Has-clause-leads c =
    let n = c.args.worker in
    let x : JobBoard = c.args.self.now in
    let y : JobBoard = c.finish.new.self in
    let z : JobBoard = c.ask-in-Has.new.self in
    subst (λ (stage : WorkerStage). Leads x (deeds_of stage n) z) (sym c.in-Has.is)
    (leads_then x y z (ends n ∷ []) (asks n ∷ []) c.finish.ensures.count c.finish.ensures.leads c.ask-in-Has.ensures.leads)
