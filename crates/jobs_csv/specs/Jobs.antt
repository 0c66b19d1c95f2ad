-- The parse of a file of jobs.
use Rattle.std.specs.Prelude.{ℕ, ◌-◌, Bool, List, [], ◌∷◌, codes, Option, Some, None, Result, Ok, Err, if◌then◌else◌}
use Rattle.job_types.specs.Job.{JobData, refusal_of}
use Rattle.job_types.specs.declared.request.JobRefused.{JobRefused}
use Rattle.job_types.specs.declared.request.JobRefused.TheVariants.{BadRoot}
use Rattle.cube_shape.specs.declared.limits.TheConstants.{MAX_LANES}
use Rattle.jobs_csv.specs.declared.fault.Fault.{Fault}
use Rattle.jobs_csv.specs.declared.fault.FaultKind.{FaultKind}
use Rattle.jobs_csv.specs.declared.fault.FaultKind.TheVariants as what
use Rattle.jobs_csv.specs.Columns.{header_of}
use Rattle.jobs_csv.specs.Fields.{number_within}
use Rattle.jobs_csv.specs.Files.{Record, parse_file}
use Rattle.jobs_csv.specs.JobFields.{collective_of, has_superfluous_root, items_of}
use Rattle.jobs_csv.specs.Outcome.{◌>>=◌}

-- The result, unless there is a reason to refuse the job.
abbrev pub refuse : Option JobRefused → Result JobData FaultKind → Result JobData FaultKind
refuse None answer = answer
refuse (Some reason) answer = Err (what.Job reason)

-- The job, unless a rule of every job refuses it, or its root is superfluous.
unfoldable pub accept_job : JobData → Bool → Result JobData FaultKind
accept_job job has_superfluous =
    refuse (refusal_of job.machine job.kind job.items)
    (if has_superfluous then Err (what.Job BadRoot) else Ok job)

-- The parse of a job's record, for a machine of dimension `n`. It reads the fields from left to
-- right, and then checks the rules of a job.
unfoldable pub job_of : ℕ → Record → Result JobData FaultKind
job_of n (lane ∷ kind ∷ op ∷ root ∷ items ∷ []) = do
  l ← number_within 0 (MAX_LANES - 1) lane
  k ← collective_of kind op root
  xs ← items_of items
  accept_job (record { machine = n; lane = l; kind = k; items = xs }) (has_superfluous_root k root)
job_of n _ = Err what.Fields

-- The parse of a file of jobs, for a machine of dimension `n`.
abbrev pub parse_jobs : ℕ → List ℕ → Result (List JobData) Fault
parse_jobs n bytes =
    parse_file (header_of (codes "lane" ∷ codes "kind" ∷ codes "op" ∷ codes "root" ∷ codes "items"
    ∷ [])) (job_of n) bytes
