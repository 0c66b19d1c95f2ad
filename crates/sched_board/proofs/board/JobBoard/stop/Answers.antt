-- The decisions come after what the worker did. It does not wait then, so they give it no job.
use Rattle.std.proofs.Common.{◌≡◌, ℕ, [], inl, inr, Option, Some, None, IfSome, IfNone, sym, ◌∙◌}
use Rattle.sched_core.specs.declared.scheduler.Core.{Core}
use Rattle.sched_board.specs.declared.workers.PoolWorker.{PoolWorker}
use Rattle.sched_board.specs.declared.workers.PoolWorker.TheVariants.{Away, Busy}
use Rattle.sched_board.specs.Pool.{worker_in}
use Rattle.sched_board.specs.declared.serving.WorkerStage.{WorkerStage}
use Rattle.sched_board.specs.declared.serving.WorkerStage.TheVariants.{Asked}
use Rattle.sched_board.specs.declared.start.ThreadStart.{ThreadStart}
use Rattle.sched_board.specs.Served.{HasStopped, IsStart, deeds_to_stop}
use Rattle.sched_board.proofs.FollowLemmas.{at_then, decides_at, leads_stopped}
use Rattle.sched_board.proofs.ServeLemmas.{none_some, still_stopped, names_others}
use Rattle.sched_board.proofs.board.JobBoard.stop.Goals as goal

busy_away : {slot : ℕ} → Busy slot ≡ Away → ⊥
busy_away e = cc

same_job : {slot other : ℕ} → Busy slot ≡ Busy other → slot ≡ other
same_job e = cc

-- with no job, the worker is away
away_then : (stage : WorkerStage) (before now : PoolWorker) (start : Option ThreadStart) → HasStopped stage before now
    → IfNone start ((slot : ℕ) → now ≡ Busy slot → ⊥) → IfNone start (now ≡ Away)
away_then stage before now (Some start) stopped none = tt
away_then stage before now None (inl away) none = away
away_then stage before now None (inr (_, (slot, _, busy))) none = absurd (none slot busy)

-- with a job, it had that one before
had_then : (stage : WorkerStage) (before now : PoolWorker) (core : Core) (start : Option ThreadStart) → HasStopped stage before now
    → IfSome start (λ start. (slot : ℕ) × ((now ≡ Busy slot) × IsStart core slot start))
    → IfSome start (λ start. (slot : ℕ) × ((before ≡ Busy slot) × (stage ≡ Asked) × (now ≡ Busy slot) × IsStart core slot start))
had_then stage before now core None stopped some = tt
had_then stage before now core (Some start) (inl away) (slot, (busy, is)) = absurd (busy_away (sym busy ∙ away))
had_then stage before now core (Some start) (inr (asked, (slot, had, has))) (other, (busy, is)) =
    let same : slot ≡ other = same_job (sym has ∙ busy) in
    (other, (rw same at had, asked, busy, is))

pub returns-then-not-more-clause-follows : goal.returns-then-not-more-clause-follows
returns-then-not-more-clause-follows c =
    at_then c.args.now c.args.self.now c.end.new.self c.decide-more.new.self
    (deeds_to_stop c.args.stage (worker_in c.args.self.now.pool c.args.worker) c.args.worker) [] c.end.ensures.count c.end.ensures.leads
    (decides_at c.args.now c.end.new.self c.decide-more.new.self c.decide-more.ensures.decides)

pub returns-then-not-more-clause-away : goal.returns-then-not-more-clause-away
returns-then-not-more-clause-away c =
    let n = c.args.worker in
    let before = worker_in c.args.self.now.pool n in
    let now = worker_in c.decide-more.new.self.pool n in
    away_then c.args.stage before now c.start_of-start.result
    (still_stopped c.args.stage before (worker_in c.end.new.self.pool n) now c.end.ensures.gone (c.decide-more.ensures.serves n (λ e. none_some e)))
    c.start_of-start.ensures.none

pub returns-then-not-more-clause-woken : goal.returns-then-not-more-clause-woken
returns-then-not-more-clause-woken c =
    names_others c.args.worker c.args.self.now c.end.new.self c.decide-more.new.self c.decide-more.result.0 c.end.ensures.others
    c.decide-more.ensures.woken

pub returns-else-not-more-clause-follows : goal.returns-else-not-more-clause-follows
returns-else-not-more-clause-follows c =
    at_then c.args.now c.args.self.now c.end.new.self c.decide-more.new.self
    (deeds_to_stop c.args.stage (worker_in c.args.self.now.pool c.args.worker) c.args.worker) [] c.end.ensures.count c.end.ensures.leads
    (decides_at c.args.now c.end.new.self c.decide-more.new.self c.decide-more.ensures.decides)

pub returns-else-not-more-clause-start : goal.returns-else-not-more-clause-start
returns-else-not-more-clause-start c =
    let n = c.args.worker in
    let before = worker_in c.args.self.now.pool n in
    let now = worker_in c.decide-more.new.self.pool n in
    had_then c.args.stage before now c.decide-more.new.self.pool.core c.start_of-start.result
    (still_stopped c.args.stage before (worker_in c.end.new.self.pool n) now c.end.ensures.gone (c.decide-more.ensures.serves n (λ e. none_some e)))
    c.start_of-start.ensures.some

pub returns-else-not-more-clause-away : goal.returns-else-not-more-clause-away
returns-else-not-more-clause-away c =
    let n = c.args.worker in
    let before = worker_in c.args.self.now.pool n in
    let now = worker_in c.decide-more.new.self.pool n in
    away_then c.args.stage before now c.start_of-start.result
    (still_stopped c.args.stage before (worker_in c.end.new.self.pool n) now c.end.ensures.gone (c.decide-more.ensures.serves n (λ e. none_some e)))
    c.start_of-start.ensures.none

pub returns-else-not-more-clause-woken : goal.returns-else-not-more-clause-woken
returns-else-not-more-clause-woken c =
    names_others c.args.worker c.args.self.now c.end.new.self c.decide-more.new.self c.decide-more.result.0 c.end.ensures.others
    c.decide-more.ensures.woken

pub returns-then-not-more-clause-stopped : goal.returns-then-not-more-clause-stopped
returns-then-not-more-clause-stopped c =
    leads_stopped c.args.self.now c.end.new.self c.decide-more.new.self
    (deeds_to_stop c.args.stage (worker_in c.args.self.now.pool c.args.worker) c.args.worker) c.end.ensures.phase c.end.ensures.leads
    c.decide-more.ensures.stopped

pub returns-else-not-more-clause-stopped : goal.returns-else-not-more-clause-stopped
returns-else-not-more-clause-stopped c =
    leads_stopped c.args.self.now c.end.new.self c.decide-more.new.self
    (deeds_to_stop c.args.stage (worker_in c.args.self.now.pool c.args.worker) c.args.worker) c.end.ensures.phase c.end.ensures.leads
    c.decide-more.ensures.stopped
