-- A number is the count of the jobs that run just if the scheduler says so.
use Rattle.std.proofs.Common.{◌≡◌, ℕ, zero, suc, ◌+◌, inl, inr, sym, ◌∙◌, ap, subst, eq-eqb}
use Rattle.std.proofs.lemmas.Bool.{eqb-true}
use Rattle.alloc_bits.specs.Count.{IsCount}
use Rattle.sched_law.specs.State.{Sched}
use Rattle.sched_jobs.specs.Counts.{DoesRun}
use Rattle.sched_core.specs.declared.scheduler.Core.{Core}
use Rattle.sched_core.specs.Shows.{ShowsCore}
use Rattle.sched_board.specs.declared.board.BoardPhase.TheVariants.{Closing, Stopped}
use Rattle.sched_board.proofs.board.JobBoard.is_over.Goals as goal

closing_stopped : Closing ≡ Stopped → ⊥
closing_stopped e = cc

-- there is one count
count_once : (P : ℕ → Type 0) (n a b : ℕ) → IsCount P n a → IsCount P n b → a ≡ b
count_once P zero a b one other = one ∙ sym other
count_once P (suc m) a b (inl (is, (before, more, counted))) (inl (_, (fewer, also, same))) =
    more ∙ ap (λ n. n + 1) (count_once P m before fewer counted same) ∙ sym also
count_once P (suc m) a b (inl (is, _)) (inr (not, _)) = absurd (not is)
count_once P (suc m) a b (inr (not, _)) (inl (is, _)) = absurd (not is)
count_once P (suc m) a b (inr (_, counted)) (inr (_, same)) = count_once P m a b counted same

pub returns-in-Closing : goal.returns-in-Closing
returns-in-Closing c =
    let core = c.args.self.now.pool.core in
    let counted = subst (λ (core : Core). (w : Sched) → ShowsCore w core → IsCount (DoesRun w) w.next c.running.result) c.scheduler-scheduler.ensures
    c.running.ensures in
    let w = c.shows_a_state.ensures.0 in
    let k = subst (ShowsCore w) c.scheduler-scheduler.ensures c.shows_a_state.ensures.1 in (
      λ none. inr (c.in-Closing.is, λ v shows. subst (IsCount (DoesRun v) v.next) (eqb-true c.running.result 0 none) (counted v shows)),
      λ over. elim over [
        | inl stopped ↦ absurd (closing_stopped (sym c.in-Closing.is ∙ stopped))
        | inr (_, none) ↦ eq-eqb c.running.result 0 (count_once (DoesRun w) w.next c.running.result 0 (counted w k) (none w k))
      ],
    )
