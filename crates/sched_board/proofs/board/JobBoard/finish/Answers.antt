-- The job of the worker is over. No other worker had it, and their jobs keep their numbers.
use Rattle.std.proofs.Common.{◌≡◌, ◌≢◌, ℕ, refl, sym, ◌∙◌, ap, subst}
use Rattle.sched_law.specs.State.{finish}
use Rattle.sched_core.specs.Shows.{job_arrival}
use Rattle.sched_board.specs.declared.workers.PoolWorker.TheVariants.{Busy}
use Rattle.sched_board.specs.Pool.{worker_in}
use Rattle.sched_law.specs.Team.{Does, end_of}
use Rattle.sched_law.specs.Team.Does.{away, has}
use Rattle.sched_board.specs.declared.board.JobBoard.{JobBoard}
use Rattle.sched_board.specs.JobBoard.{ShowsTeam, does_in}
use Rattle.sched_board.proofs.ShowLemmas.{shown, shows_set}
use Rattle.sched_board.proofs.board.JobBoard.finish.Goals as goal

pub returns-clause-leads : goal.returns-clause-leads
returns-clause-leads c =
    let x : JobBoard = c.args.self.now in
    let y : JobBoard = record { pool = c.finish.new.self; phase = c.args.self.now.phase } in
    let n = c.args.worker in
    let slot = (c.requires.busy).0 in
    let busy : worker_in x.pool n ≡ Busy slot = (c.requires.busy).1 in
    let j = job_arrival x.pool.core slot in
    let apart = λ (u s : ℕ) (other : u ≢ n) (held : worker_in x.pool u ≡ Busy s) (here : s ≡ slot).
    other (c.is_staffed.ensures.apart u n slot (held ∙ ap Busy here) busy) in
    λ t k.
    let is : t.does n ≡ has j = shown t x n (Busy slot) k busy in (
      ((j, is), tt),
      subst (λ (d : Does). ShowsTeam (end_of t n d) y) (sym is)
          (shows_set t (finish j t.sched) n away x y k (c.finish.ensures.shows slot t.sched busy k.core)
          (sym (ap (does_in y.pool.core) c.finish.ensures.away)) c.finish.ensures.others refl
          (λ u s other held. (c.finish.ensures.other_jobs slot busy s (apart u s other held)).1)),
    )
