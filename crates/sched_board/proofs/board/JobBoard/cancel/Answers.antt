-- The job waited, so no worker had it. Each other job keeps its number.
use Rattle.std.proofs.Common.{◌≡◌, ℕ, refl, sym, ◌∙◌, ap}
use Rattle.sched_law.specs.State.{cancel}
use Rattle.sched_law.proofs.SetLemmas.{runs_waits}
use Rattle.sched_core.specs.Shows.{job_arrival, job_place}
use Rattle.sched_core.proofs.JobLemmas.{slot_waits}
use Rattle.sched_board.specs.declared.workers.PoolWorker.TheVariants.{Busy}
use Rattle.sched_board.specs.Pool.{worker_in}
use Rattle.sched_law.specs.Team.Deed.{cancels}
use Rattle.sched_board.specs.declared.board.JobBoard.{JobBoard}
use Rattle.sched_board.proofs.FollowLemmas.{leads_one}
use Rattle.sched_board.proofs.ShowLemmas.{shows_same}
use Rattle.sched_board.proofs.board.JobBoard.cancel.Goals as goal

pub returns-clause-leads : goal.returns-clause-leads
returns-clause-leads c =
    let x : JobBoard = c.args.self.now in
    let y : JobBoard = record { pool = c.cancel.new.self; phase = c.args.self.now.phase } in
    let slot = c.args.slot in
    let j = job_arrival x.pool.core slot in
    let waits = c.requires.job in
    let other = λ (u s : ℕ) (busy : worker_in x.pool u ≡ Busy s) (here : s ≡ slot).
    let runs = c.is_staffed.ensures.runs u s busy in
    runs_waits (sym (runs.1).1 ∙ ap (job_place x.pool.core) here ∙ waits.1) in
    leads_one x y (cancels j)
    (λ t k. (
      (waits.0, slot_waits t.sched x.pool.core.jobs k.core.jobs slot waits.0 waits.1),
      shows_same t (cancel j t.sched) x y k (c.cancel.ensures.shows t.sched k.core) c.cancel.ensures.workers refl
          (λ u s busy. (c.cancel.ensures.others s (other u s busy)).1),
    ))
