-- What the pool decides is a decision in each state that it shows. The jobs that ran keep their
-- numbers.
use Rattle.std.proofs.Common.{◌≡◌, ℕ, ◌<◌, ◌⊎◌, inl, inr, List, [], Option, Some, None, IfNone, ◌∷◌, length, refl, sym, ◌∙◌, ap, subst, arith}
use Rattle.sched_law.specs.State.{at}
use Rattle.sched_law.proofs.EndLemmas.{settled_after}
use Rattle.sched_core.specs.declared.scheduler.Core.{Core}
use Rattle.sched_core.specs.Shows.{ShowsCore, job_arrival}
use Rattle.sched_board.specs.declared.workers.PoolWorker.{PoolWorker}
use Rattle.sched_board.specs.declared.workers.PoolWorker.TheVariants.{Waiting, Busy}
use Rattle.sched_board.specs.Workers.{none_waits_in}
use Rattle.sched_board.specs.Pool.{worker_in}
use Rattle.sched_law.specs.Team.Deed.{settles, starts}
use Rattle.sched_law.specs.Team.Does.{has, waits}
use Rattle.sched_board.specs.declared.board.JobBoard.{JobBoard}
use Rattle.sched_board.specs.JobBoard.{IsAtRest, does_in}
use Rattle.sched_board.proofs.ShowLemmas.{busy_taken, shown, shows_same, shows_set, waits_waiting}
use Rattle.sched_board.proofs.board.JobBoard.start_one.Goals as goal

look : (r : Option ℕ) → (r ≡ None) ⊎ ((u : ℕ) × (r ≡ Some u))
look None = inl refl
look (Some u) = inr (u, refl)

if_none : (r : Option ℕ) (P : Type 0) → (r ≡ None → P) → IfNone r P
if_none None P none = none refl
if_none (Some u) P none = tt

pub returns-clause-decides : goal.returns-clause-decides
returns-clause-decides c = λ t k.
    let x : JobBoard = c.args.self.now in
    let y : JobBoard = record { pool = c.assign.new.self; phase = c.args.self.now.phase } in
    let kept = λ (u s : ℕ) (busy : worker_in x.pool u ≡ Busy s).
    (c.assign.ensures.keeps s (busy_taken x.pool.core x.pool.workers u s c.is_staffed.ensures busy)).1 in
    elim (look c.assign.result) [
      | inl none ↦
          let same = rw none at c.assign.ensures.same in
          elim (rw none at (c.assign.ensures.none t.sched k.core)) [
            | inl (_, as_before) ↦ (
              [],
              tt,
              tt,
              shows_same t t.sched x y k (subst (ShowsCore t.sched) (sym as_before) k.core) same refl
                  (λ u s busy. ap (λ (core : Core). job_arrival core s) as_before),
            )
            | inr (v, settled) ↦
                (settles c.args.now v ∷ [], (refl, tt), (settled.0, tt), shows_same t v x y k settled.1 same refl kept)
          ]
      | inr (u, some) ↦
          let got = rw some at (c.assign.ensures.starts t.sched k.core) in
          let first = rw some at c.assign.ensures.first in
          let others = rw some at c.assign.ensures.others in
          let j = job_arrival y.pool.core got.0 in
          let v = (got.1).0 in
          let started = (got.1).1 in
          let below = λ (i : ℕ) (lower : i < u) (waits_too : t.does i ≡ waits).
          first.2 i (omega arith) lower (waits_waiting x.pool.core (worker_in x.pool i) (sym (k.workers i) ∙ waits_too)) in (
            starts c.args.now u j v ∷ [],
            (refl, tt),
            ((shown t x u Waiting k first.1, below, started.1), tt),
            shows_set t v u (has j) x y k started.2 (sym (ap (does_in y.pool.core) started.0)) others refl (λ i s other busy. kept i s busy),
          )
    ]

pub returns-clause-rest : goal.returns-clause-rest
returns-clause-rest c =
    let y : JobBoard = record { pool = c.assign.new.self; phase = c.args.self.now.phase } in
    let w = (c.shows_a_state.ensures).0 in
    let k = subst (ShowsCore w) c.scheduler.ensures (c.shows_a_state.ensures).1 in
    if_none c.assign.result (IsAtRest y)
    (λ none. elim (rw none at (c.assign.ensures.none w k)) [
      | inl (idle, _) ↦
          inr (inl (subst (λ (ws : List PoolWorker). none_waits_in ws 0 (length ws)) (sym (rw none at c.assign.ensures.same)) idle))
      | inr (v, settled) ↦ inr (inr (v, (settled_after (at c.args.now w) v settled.0, settled.1)))
    ])
