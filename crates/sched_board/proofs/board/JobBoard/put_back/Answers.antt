-- The decisions come after the block was put back.
use Rattle.std.proofs.Common.{[], ◌∷◌, List, length, refl, ap}
use Rattle.sched_board.specs.declared.workers.PoolWorker.{PoolWorker}
use Rattle.sched_law.specs.Team.Deed.{vacates}
use Rattle.sched_board.specs.declared.board.JobBoard.{JobBoard}
use Rattle.sched_board.specs.Served.{block_at}
use Rattle.sched_board.proofs.FollowLemmas.{at_then, leads_stopped}
use Rattle.sched_board.proofs.ServeLemmas.{names_after}
use Rattle.sched_board.proofs.board.JobBoard.put_back.Goals as goal

pub returns-clause-follows : goal.returns-clause-follows
returns-clause-follows c =
    let x : JobBoard = c.args.self.now in
    let y : JobBoard = c.vacate.new.self in
    let count = ap (λ (ws : List PoolWorker). length ws) c.vacate.ensures.workers in
    at_then c.args.now x y c.settle.new.self (vacates (block_at c.args.base c.args.dim) ∷ []) [] count (c.if-not-vacate.ensures.leads refl)
    c.settle.ensures.follows

pub returns-clause-woken : goal.returns-clause-woken
returns-clause-woken c =
    names_after c.args.self.now c.vacate.new.self c.settle.new.self c.settle.result.woken c.vacate.ensures.workers c.settle.ensures.woken

pub returns-clause-stopped : goal.returns-clause-stopped
returns-clause-stopped c =
    leads_stopped c.args.self.now c.vacate.new.self c.settle.new.self (vacates (block_at c.args.base c.args.dim) ∷ []) c.vacate.ensures.phase
    (c.if-not-vacate.ensures.leads refl) c.settle.ensures.stopped
