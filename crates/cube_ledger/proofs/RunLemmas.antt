-- What the slips of a finished dispatcher weigh: as much as the jobs that its lanes accepted.
use Rattle.std.proofs.Common.{◌≡◌, ℕ, List, [], ◌∷◌, refl, arith}
use Rattle.std.specs.List.{AllByRecursion as Each}
use Rattle.ghost_history.specs.Sums.{total}
use Rattle.cube_shape.specs.declared.region.Region.{Region}
use Rattle.job_types.specs.Reply.{ReplyData}
use Rattle.job_queue.specs.declared.record.QueuedJob.{QueuedJob}
use Rattle.job_queue.specs.declared.record.LaneRecord.{LaneRecord}
use Rattle.job_queue.specs.Record.{accepted}
use Rattle.dispatcher.specs.Finished.{Outcome, FinishedRun, weight_of}
use Rattle.dispatcher.specs.Reply.{answered, IsRight}
use Rattle.cube_ledger.specs.declared.slip.Slip.{Slip}
use Rattle.cube_ledger.specs.Ledger.{HasAllSlips, slip_of}

-- A weight of slips, and a weight of jobs that agrees with it if the reply is right.
module _ (n : ℕ) (weight : Slip → ℕ) (job_weight : QueuedJob → ℕ)
    (same : (r : ReplyData) → IsRight n r → weight (slip_of r) ≡ job_weight (answered r)) where
  of_replies : (replies : List ReplyData)
      → Each (IsRight n) replies
      → total (λ r. weight (slip_of r)) replies ≡ weight_of job_weight replies
  of_replies [] right = refl
  of_replies (r ∷ replies) right = omega (arith, same r right.0, of_replies replies right.1)

  of_workers : (by_worker : List (List ReplyData))
      → Each (Each (IsRight n)) by_worker
      → total (total (λ r. weight (slip_of r))) by_worker ≡ total (weight_of job_weight) by_worker
  of_workers [] right = refl
  of_workers (replies ∷ by_worker) right = omega (arith, of_replies replies right.0, of_workers by_worker right.1)

  pub slips_of_run : (lanes : List LaneRecord) (grants : List (List Region)) (note : ℕ)
      (o : Outcome) (slips : List Slip)
      → FinishedRun n lanes grants note o
      → HasAllSlips o.by_worker o.rest slips
      → total weight slips ≡ total (λ l. total job_weight (accepted l.entries)) lanes
  slips_of_run lanes grants note o slips run all = omega (
    arith,
    all weight,
    of_workers o.by_worker run.right,
    of_replies o.rest run.rest_right,
    run.balance job_weight,
  )
