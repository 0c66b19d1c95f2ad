-- The slot of the new job was free, so no worker has its job, and their jobs keep their numbers.
use Rattle.std.proofs.Common.{◌≡◌, ℕ, [], ◌∷◌, Option, Some, None, IfOk, refl, sym, subst, rules}
use Rattle.std.specs.Option.{ok_or}
use Rattle.sched_law.specs.State.{submit}
use Rattle.sched_law.specs.Law.{IsSound}
use Rattle.sched_core.specs.Shows.{IsTaken}
use Rattle.sched_law.specs.Team.Deed.{submits}
use Rattle.sched_board.specs.declared.board.JobBoard.{JobBoard}
use Rattle.sched_board.specs.declared.board.BoardRefusal.{BoardRefusal}
use Rattle.sched_board.specs.declared.board.BoardRefusal.TheVariants.{Full}
use Rattle.sched_board.specs.JobBoard.{IsClosed, Leads}
use Rattle.sched_board.proofs.FollowLemmas.{leads_one}
use Rattle.sched_board.proofs.ShowLemmas.{busy_taken, open_team, shows_same}
use Rattle.sched_board.proofs.board.JobBoard.submit.Goals as goal

-- what holds of the value, if there is one
if_ok : (r : Option ℕ) (why : BoardRefusal) (P : ℕ → Type 0) → ((slot : ℕ) → r ≡ Some slot → P slot) → IfOk (ok_or r why) P
if_ok None why P some = tt
if_ok (Some slot) why P some = some slot refl

pub returns-clause-leads : goal.returns-clause-leads
returns-clause-leads c =
    let x : JobBoard = c.args.self.now in
    let y : JobBoard = record { pool = c.submit.new.self; phase = c.args.self.now.phase } in
    let opens : IsClosed x → ⊥ = search rules in
    rw c.ok_or.ensures.value
    (if_ok c.submit.result Full (λ slot. Leads x (submits c.args.job ∷ []) y)
    (λ slot is.
    let free = rw is at c.submit.ensures.free in
    let others = rw is at c.submit.ensures.others in
    leads_one x y (submits c.args.job)
    (λ t k. (
      (open_team t x k opens, subst (λ n. IsSound n c.args.job) (sym k.core.machine.dim) c.requires.sound),
      shows_same t (submit c.args.job t.sched) x y k (rw is at (c.submit.ensures.shows t.sched k.core)) c.submit.ensures.workers refl
          (λ u s busy. (others s (λ here. free (subst (IsTaken x.pool.core) here (busy_taken x.pool.core x.pool.workers u s c.is_staffed.ensures busy)))).1),
    ))))
