-- How the accepted jobs of a lane grow with its record.
use Rattle.std.proofs.Common.{◌≡◌, ◌++◌, ◌∷◌, [], List, map, ℕ, None, Some, ap, ◌∙◌, append_assoc}
use Rattle.std.proofs.lemmas.List.{map-append}
use Rattle.job_types.specs.Job.{JobData}
use Rattle.job_queue.specs.declared.record.QueuedJob.{QueuedJob}
use Rattle.job_queue.specs.declared.record.LaneRecord.{LaneRecord}
use Rattle.job_queue.specs.Record.{accepted, job_of, accepted_jobs}
use Rattle.job_queue.specs.declared.job_line.Refused.{Refused}
use Rattle.job_queue.specs.declared.job_line.Refused.TheVariants.{Closed, Full, LaneSpent}
use Rattle.job_queue.specs.Line.{GainsEntry, GainsRefusal}
use Rattle.job_queue.proofs.AcceptedLemmas.{accepted-push, accepted-full}

-- An accepted job goes from the front of the list to the end of the lane's jobs.
pub fed_one : (old new : LaneRecord) (number : ℕ) (q : QueuedJob) (rest : List JobData)
    → GainsEntry old number (Some q) new
    → accepted_jobs new ++ rest ≡ accepted_jobs old ++ q.job ∷ rest
fed_one old new number q rest gains =
    ap (λ (r : LaneRecord). accepted_jobs r ++ rest) gains
    ∙ (ap (λ (qs : List QueuedJob). map job_of qs ++ rest) (accepted-push old.entries number q)
    ∙ (ap (λ (js : List JobData). js ++ rest) (map-append job_of (accepted old.entries) (q ∷ [])) ∙ append_assoc (accepted_jobs old) (q.job ∷ []) rest))

-- An entry that found the queue full brings no job.
pub fed_none : (old new : LaneRecord) (number : ℕ)
    → GainsEntry old number None new
    → accepted_jobs new ≡ accepted_jobs old
fed_none old new number gains = ap accepted_jobs gains ∙ ap (map job_of) (accepted-full old.entries number)

-- No refusal changes the lane's number.
pub refused_number : (old : LaneRecord) (why : Refused) (new : LaneRecord)
    → GainsRefusal old why new
    → new.number ≡ old.number
refused_number old (Closed seen) new gains = ap (λ (r : LaneRecord). r.number) gains
refused_number old Full new gains = ap (λ (r : LaneRecord). r.number) gains.1
refused_number old LaneSpent new gains = ap (λ (r : LaneRecord). r.number) gains
