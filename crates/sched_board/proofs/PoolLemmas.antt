-- A pool after a worker does something else, and after a job ends or starts.
use Rattle.std.proofs.Common.{◌≡◌, ◌≢◌, ℕ, ◌<◌, ◌≤◌, ◌⊎◌, inl, inr, List, length, replicate, take, drop, ◌++◌, sym, ◌∙◌, ap, subst, arith}
use Rattle.std.specs.List.{refill}
use Rattle.std.proofs.Math.Seq.{take-append_seam}
use Rattle.std.proofs.lemmas.Bool.{cases_eq, cases_lt}
use Rattle.std.proofs.lemmas.List.{get_or-replicate, get_or_past, length-replicate}
use Rattle.sched_law.specs.declared.job.Place.TheVariants.{Absent}
use Rattle.sched_law.specs.State.{initial}
use Rattle.sched_law.proofs.SetLemmas.{absent_runs}
use Rattle.sched_core.specs.declared.scheduler.Core.{Core}
use Rattle.sched_core.specs.Shows.{KeepsOthers, ShowsCore, job_place, slots_of}
use Rattle.sched_core.proofs.JobLemmas.{running_present, slot_place}
use Rattle.sched_board.specs.declared.workers.PoolWorker.{PoolWorker}
use Rattle.sched_board.specs.declared.workers.PoolWorker.TheVariants.{Away, Waiting, Busy}
use Rattle.sched_board.specs.Workers.{does, none_waits_in}
use Rattle.sched_board.specs.Pool.{IsPool, IsStaffed, RunsIn}

-- ---- what a worker does

busy_is : {a b : ℕ} → Busy a ≡ Busy b → a ≡ b
busy_is e = cc

away_busy : {slot : ℕ} → Away ≡ Busy slot → ⊥
away_busy e = cc

waiting_busy : {slot : ℕ} → Waiting ≡ Busy slot → ⊥
waiting_busy e = cc

away_waits : Away ≡ Waiting → ⊥
away_waits e = cc

-- a worker with one state has no other one
pub away_has_none : {x : PoolWorker} → x ≡ Away → (slot : ℕ) → x ≡ Busy slot → ⊥
away_has_none is slot has = away_busy (sym is ∙ has)

pub waiting_has_none : {x : PoolWorker} → x ≡ Waiting → (slot : ℕ) → x ≡ Busy slot → ⊥
waiting_has_none is slot has = waiting_busy (sym is ∙ has)

pub away_waits_not : {x : PoolWorker} → x ≡ Away → x ≡ Waiting → ⊥
away_waits_not is waits = away_waits (sym is ∙ waits)

-- ---- at first

-- all workers are away at first
pub away_first : (n u : ℕ) → does (replicate n Away) u ≡ Away
away_first n u = elim (cases_lt u n) [
  | inl within ↦ get_or-replicate n u Away Away within
  | inr past ↦ get_or_past (replicate n Away) u Away (simp length-replicate past)
]

-- no job runs at first
pub first_staffed : (dim patience : ℕ) (core : Core) (workers : List PoolWorker) → ShowsCore (initial dim patience) core
    → ((u : ℕ) → does workers u ≡ Away) → IsStaffed core workers
first_staffed dim patience core workers k away = record {
  runs = λ u slot has. absurd (away_has_none (away u) slot has);
  apart = λ u v slot a b. absurd (away_has_none (away u) slot a);
  all = λ slot runs. absurd (idle slot runs);
}
  where
    idle : (slot : ℕ) → RunsIn core slot → ⊥
    idle slot (inside, (run, at)) =
        absent_runs (slot_place (initial dim patience) core.jobs k.jobs slot (running_present (job_place core slot) run at) ∙ at)

-- ---- workers of which one was written

pub rewritten : (core : Core) (old new : List PoolWorker) (first : ℕ) → length new ≡ length old
    → IsPool (record { core = core; workers = new; first = first })
    → IsPool (record { core = core; workers = refill (length old) old new; first = first })
rewritten core old new first count is =
    subst (λ (ws : List PoolWorker). IsPool (record { core = core; workers = ws; first = first }))
    (sym (ap (λ k. take k (new ++ drop (length new) old)) (sym count) ∙ take-append_seam new (drop (length new) old))) is

-- no worker waits in two parts
pub none_joined : (workers : List PoolWorker) (mid end : ℕ) → none_waits_in workers 0 mid → none_waits_in workers mid end → none_waits_in workers 0 end
none_joined workers mid end lower upper u low high = elim (cases_lt u mid) [
  | inl below ↦ lower u low below
  | inr from ↦ upper u from high
]

-- the same slots have jobs that run
pub kept_staffed : (before after : Core) (workers : List PoolWorker) → ((s : ℕ) → RunsIn before s → RunsIn after s)
    → ((s : ℕ) → RunsIn after s → RunsIn before s) → IsStaffed before workers → IsStaffed after workers
kept_staffed before after workers on only is = record {
  runs = λ u slot has. on slot (is.runs u slot has);
  apart = is.apart;
  all = λ slot runs. is.all slot (only slot runs);
}

module _ (old new : List PoolWorker) (n : ℕ) (others : (u : ℕ) → u ≢ n → does new u ≡ does old u) where
  -- a worker without a job still has none
  pub idle_staffed : (core : Core) → ((slot : ℕ) → does old n ≡ Busy slot → ⊥) → ((slot : ℕ) → does new n ≡ Busy slot → ⊥)
      → IsStaffed core old → IsStaffed core new
  idle_staffed core was now is = record {
    runs = λ u slot has. is.runs u slot (back u slot has);
    apart = λ u v slot a b. is.apart u v slot (back u slot a) (back v slot b);
    all = λ slot runs. let found = is.all slot runs in (found.0, forth found.0 slot found.1);
  }
    where
      back : (u slot : ℕ) → does new u ≡ Busy slot → does old u ≡ Busy slot
      back u slot has = elim (cases_eq u n) [
        | inl here ↦ absurd (now slot (ap (does new) (sym here) ∙ has))
        | inr other ↦ sym (others u other) ∙ has
      ]

      forth : (u slot : ℕ) → does old u ≡ Busy slot → does new u ≡ Busy slot
      forth u slot has = elim (cases_eq u n) [
        | inl here ↦ absurd (was slot (ap (does old) (sym here) ∙ has))
        | inr other ↦ others u other ∙ has
      ]

  -- no more workers wait if this one does not
  pub none_more : (from end : ℕ) → (does new n ≡ Waiting → ⊥) → none_waits_in old from end → none_waits_in new from end
  none_more from end idle none u low high waits = elim (cases_eq u n) [
    | inl here ↦ idle (ap (does new) (sym here) ∙ waits)
    | inr other ↦ none u low high (sym (others u other) ∙ waits)
  ]

  -- those below it do as before
  pub none_below : (from end : ℕ) → end ≤ n → none_waits_in old from end → none_waits_in new from end
  none_below from end below none u low high waits =
      none u low high (sym (others u (λ here. omega (arith, here, high, below))) ∙ waits)

  -- its job is over
  module _ (before after : Core) (slot : ℕ) (had : does old n ≡ Busy slot) (now : (s : ℕ) → does new n ≡ Busy s → ⊥)
      (slots : slots_of after ≡ slots_of before) (over : job_place after slot ≡ Absent) (kept : KeepsOthers before after slot) where
    pub over_staffed : IsStaffed before old → IsStaffed after new
    over_staffed is = record {
      runs = λ u s has. forth s (back u s has).0 (is.runs u s (back u s has).1);
      apart = λ u v s a b. is.apart u v s (back u s a).1 (back v s b).1;
      all = λ s runs.
          let was = earlier s runs in
          let found = is.all s was.1 in
          let other : found.0 ≢ n = λ here. was.0 (busy_is (sym found.1 ∙ ap (does old) here ∙ had)) in
          (found.0, others found.0 other ∙ found.1);
    }
      where
        forth : (s : ℕ) → s ≢ slot → RunsIn before s → RunsIn after s
        forth s other (inside, (run, at)) = (subst (λ k. s < k) (sym slots) inside, (run, (kept s other).0 ∙ at))

        earlier : (s : ℕ) → RunsIn after s → (s ≢ slot) × RunsIn before s
        earlier s (inside, (run, at)) =
            let other : s ≢ slot = λ here. absent_runs (sym over ∙ ap (job_place after) (sym here) ∙ at) in
            (other, (subst (λ k. s < k) slots inside, (run, sym (kept s other).0 ∙ at)))

        back : (u s : ℕ) → does new u ≡ Busy s → (s ≢ slot) × (does old u ≡ Busy s)
        back u s has = elim (cases_eq u n) [
          | inl here ↦ absurd (now s (ap (does new) (sym here) ∙ has))
          | inr other ↦
              let was = sym (others u other) ∙ has in
              (λ same. other (is.apart u n slot (was ∙ ap Busy same) had), was)
        ]

  -- it gets the job that starts
  module _ (before after : Core) (slot : ℕ) (idle : (s : ℕ) → does old n ≡ Busy s → ⊥) (now : does new n ≡ Busy slot)
      (on : (s : ℕ) → RunsIn before s → RunsIn after s) (only : (s : ℕ) → RunsIn after s → (slot ≡ s) ⊎ RunsIn before s)
      (fresh : RunsIn before slot → ⊥) (starts : RunsIn after slot) where
    pub started_staffed : IsStaffed before old → IsStaffed after new
    started_staffed is = record {
      runs = λ u s has. elim (cases_eq u n) [
        | inl here ↦ subst (RunsIn after) (busy_is (sym now ∙ ap (does new) (sym here) ∙ has)) starts
        | inr other ↦ on s (is.runs u s (sym (others u other) ∙ has))
      ];
      apart = λ u v s a b. elim (cases_eq u n) [
        | inl u_here ↦ elim (cases_eq v n) [
          | inl v_here ↦ u_here ∙ sym v_here
          | inr v_other ↦ absurd (clash u v s u_here a v_other b)
        ]
        | inr u_other ↦ elim (cases_eq v n) [
          | inl v_here ↦ absurd (clash v u s v_here b u_other a)
          | inr v_other ↦ is.apart u v s (sym (others u u_other) ∙ a) (sym (others v v_other) ∙ b)
        ]
      ];
      all = λ s runs. elim (only s runs) [
        | inl here ↦ (n, now ∙ ap Busy here)
        | inr was ↦
            let found = is.all s was in
            (found.0, others found.0 (λ at. idle s (ap (does old) (sym at) ∙ found.1)) ∙ found.1)
      ];
    }
      where
        clash : (u v s : ℕ) → u ≡ n → does new u ≡ Busy s → v ≢ n → does new v ≡ Busy s → ⊥
        clash u v s here a other b =
            fresh (subst (RunsIn before) (busy_is (sym a ∙ ap (does new) here ∙ now)) (is.runs v s (sym (others v other) ∙ b)))
