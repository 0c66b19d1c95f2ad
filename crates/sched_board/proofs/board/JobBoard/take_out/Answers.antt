-- The decisions come after the block went out of service.
use Rattle.std.proofs.Common.{[], ◌∷◌, List, length, refl, ◌∙◌, ap, subst}
use Rattle.cube_shape.specs.Region.{IsAligned}
use Rattle.sched_core.specs.Shows.{dim_of}
use Rattle.sched_board.specs.declared.workers.PoolWorker.{PoolWorker}
use Rattle.sched_law.specs.Team.Deed.{occupies}
use Rattle.sched_board.specs.declared.board.JobBoard.{JobBoard}
use Rattle.sched_board.specs.Served.{block_at}
use Rattle.sched_board.proofs.FollowLemmas.{at_then, leads_stopped}
use Rattle.sched_board.proofs.ServeLemmas.{names_after}
use Rattle.sched_board.proofs.board.JobBoard.take_out.Goals as goal

pub returns-then-not-occupy-clause-why : goal.returns-then-not-occupy-clause-why
returns-then-not-occupy-clause-why c =
    let is = subst (λ n. IsAligned n (block_at c.args.base c.args.dim)) (c.dim.ensures.dim ∙ ap dim_of c.scheduler.ensures)
    (c.if-not-is_block.ensures.0 refl) in
    (is, c.if-not-occupy.ensures.refused refl)

pub returns-clause-follows : goal.returns-clause-follows
returns-clause-follows c =
    let x : JobBoard = c.args.self.now in
    let y : JobBoard = c.occupy.new.self in
    let count = ap (λ (ws : List PoolWorker). length ws) c.occupy.ensures.workers in
    at_then c.args.now x y c.settle.new.self (occupies (block_at c.args.base c.args.dim) ∷ []) [] count (c.if-not-occupy.ensures.leads refl)
    c.settle.ensures.follows

pub returns-clause-woken : goal.returns-clause-woken
returns-clause-woken c =
    names_after c.args.self.now c.occupy.new.self c.settle.new.self c.settle.result.woken c.occupy.ensures.workers c.settle.ensures.woken

pub returns-clause-stopped : goal.returns-clause-stopped
returns-clause-stopped c =
    leads_stopped c.args.self.now c.occupy.new.self c.settle.new.self (occupies (block_at c.args.base c.args.dim) ∷ []) c.occupy.ensures.phase
    (c.if-not-occupy.ensures.leads refl) c.settle.ensures.stopped
