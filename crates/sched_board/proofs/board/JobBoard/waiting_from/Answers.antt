-- No job waits in the slots that were passed, and none is in those between two that are used.
use Rattle.std.proofs.Common.{◌≡◌, ℕ, ◌<◌, ◌≤◌, inl, inr, sym, ◌∙◌, ap, subst, arith}
use Rattle.std.proofs.lemmas.Bool.{cases_eq, cases_lt}
use Rattle.sched_core.specs.declared.scheduler.Core.{Core}
use Rattle.sched_core.specs.Shows.{HasNoneTaken, IsNextTaken, job_place}
use Rattle.sched_core.proofs.JobLemmas.{waiting_present}
use Rattle.sched_board.specs.Served.{WaitsIn}
use Rattle.sched_board.proofs.board.JobBoard.waiting_from.Goals as goal

-- what holds below a slot, and from it on
passed_then : (core : Core) (from start u : ℕ) → ((v : ℕ) → from ≤ v → v < start → WaitsIn core v → ⊥)
    → (start ≤ u → WaitsIn core u → ⊥) → from ≤ u → WaitsIn core u → ⊥
passed_then core from start u passed later far waits = elim (cases_lt u start) [ inl below ↦ passed u far below waits | inr on ↦ later on waits ]

-- between two slots that are used, none is
between : (core : Core) (start slot u : ℕ) → IsNextTaken core start slot → u < slot → start ≤ u → WaitsIn core u → ⊥
between core start slot u found below on waits = found.first u on below (waiting_present (job_place core u) waits.0 waits.1)

pub returns-in-Waiting-clause-found : goal.returns-in-Waiting-clause-found
returns-in-Waiting-clause-found c =
    let core = c.args.self.now.pool.core in
    let start = c.loop-slot.start in
    let slot = c.in-Some.slot in
    let found = subst (λ (core : Core). IsNextTaken core start slot) c.scheduler-scheduler.ensures c.in-Some.ensures.found in
    let waited = sym (c.in-Waiting.ensures ∙ ap (λ (core : Core). job_place core slot) c.scheduler-scheduler.ensures) in
    record {
      after = omega (arith, found.after, c.loop-slot.invariant.after);
      inside = found.inside;
      waits = (c.in-Waiting.field-0, waited);
      first = λ u far below. passed_then core c.args.from start u c.loop-slot.invariant.passed (between core start slot u found below) far;
    }

pub loop-slot-preserved : goal.loop-slot-preserved
loop-slot-preserved c =
    let core = c.args.self.now.pool.core in
    let start = c.loop-slot.start in
    let slot = c.in-Some.slot in
    let found = subst (λ (core : Core). IsNextTaken core start slot) c.scheduler-scheduler.ensures c.in-Some.ensures.found in
    let at : c.place.result ≡ job_place core slot = c.place.ensures ∙ ap (λ (core : Core). job_place core slot) c.scheduler-scheduler.ensures in
    record {
      after = omega (arith, found.after, c.loop-slot.invariant.after);
      passed = λ u far below. passed_then core c.args.from start u c.loop-slot.invariant.passed
          (λ on waits. elim (cases_eq u slot) [
            | inl here ↦ c.in_default-place.not-Waiting waits.0 (at ∙ ap (job_place core) (sym here) ∙ waits.1)
            | inr other ↦ between core start slot u found (omega arith) on waits
          ])
          far;
    }

pub returns-clause-none : goal.returns-clause-none
returns-clause-none c = λ u far.
    let core = c.args.self.now.pool.core in
    let start = c.loop-slot.start in
    let none = subst (λ (core : Core). HasNoneTaken core start) c.scheduler-scheduler.ensures c.in_default.ensures.none in
    passed_then core c.args.from start u c.loop-slot.invariant.passed
    (λ on waits. none u on (waiting_present (job_place core u) waits.0 waits.1)) far
