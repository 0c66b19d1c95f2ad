-- Two jobs with their ids are the same or not.
use Rattle.std.proofs.Common.{◌≡◌, ℕ, List, ◌∷◌, sym, ap, ◌∙◌}
use mathlib.Core.HLevel.{Discrete}
use mathlib.Core.List.{List-discrete}
use native.Mathlib.Decide.{ℕ_discrete}
use Rattle.job_types.specs.Job.{JobData}
use Rattle.job_types.proofs.JobCodeLemmas.{job_code, job_of_code, job_back}
use Rattle.job_queue.specs.declared.record.QueuedJob.{QueuedJob}
use Rattle.job_queue.specs.Record.{job_id, queued}

code : QueuedJob → List ℕ
code q = q.id.lane ∷ q.id.seq ∷ job_code q.job

decode : QueuedJob → List ℕ → QueuedJob
decode none (lane ∷ seq ∷ rest) = queued (job_id lane seq) (job_of_code none.job rest)
decode none short = none

decode_back : (none q : QueuedJob) → decode none (code q) ≡ q
unfolding decode code
decode_back none q =
    ap (λ (job : JobData). queued (job_id q.id.lane q.id.seq) job) (job_back none.job q.job)

pub same_job : Discrete QueuedJob
same_job a b = of (List-discrete ℕ_discrete (code a) (code b))
  where
    of : Dec (code a ≡ code b) → Dec (a ≡ b)
    of (yes e) = yes (sym (decode_back a a) ∙ (ap (decode a) e ∙ decode_back a b))
    of (no other) = no (λ e. other (ap code e))
