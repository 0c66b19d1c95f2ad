-- The decisions come after no job may come any more, which changes no worker.
use Rattle.std.proofs.Common.{◌≡◌, [], ◌∷◌, ap, sym, subst, ◌∙◌}
use Rattle.sched_board.specs.Pool.{PoolData, workers_of}
use Rattle.sched_law.specs.Team.Deed.{closes}
use Rattle.sched_board.specs.declared.board.JobBoard.{JobBoard}
use Rattle.sched_board.specs.declared.board.BoardPhase.TheVariants.{Stopped}
use Rattle.sched_board.specs.JobBoard.{Leads, phase_after}
use Rattle.sched_board.proofs.FollowLemmas.{at_then}
use Rattle.sched_board.proofs.ServeLemmas.{names_after}
use Rattle.sched_board.proofs.board.JobBoard.shut.Goals as goal

pub returns-clause-follows : goal.returns-clause-follows
returns-clause-follows c =
    let x : JobBoard = c.args.self.now in
    let y : JobBoard = c.close.new.self in
    at_then c.args.now x y c.settle.new.self (closes ∷ []) [] (ap workers_of c.close.ensures.pool) c.close.ensures.leads c.settle.ensures.follows

pub returns-clause-woken : goal.returns-clause-woken
returns-clause-woken c =
    let same = ap (λ (pool : PoolData). pool.workers) c.close.ensures.pool in
    names_after c.args.self.now c.close.new.self c.settle.new.self c.settle.result.woken same c.settle.ensures.woken

pub returns-clause-stopped : goal.returns-clause-stopped
returns-clause-stopped c = λ no.
    let stopped : c.close.new.self.phase ≡ Stopped = c.close.ensures.phase ∙ ap phase_after no in
    subst (Leads c.args.self.now (closes ∷ [])) (sym (c.settle.ensures.stopped stopped)) c.close.ensures.leads
