-- What the records of all lanes and passes of a queue say together at its end.
use Rattle.std.specs.Prelude.{◌≡◌, ℕ, ◌+◌, ◌<◌, ◌≤◌, List, ◌++◌, map}
use Rattle.std.specs.List.{AllByRecursion as Each}
use Rattle.ghost_history.specs.Sums.{total, below}
use Rattle.job_queue.specs.declared.record.QueuedJob.{QueuedJob}
use Rattle.job_queue.specs.declared.record.LaneRecord.{LaneRecord}
use Rattle.job_queue.specs.declared.record.PassRecord.{PassRecord}
use Rattle.job_queue.specs.Record.{accepted, AreSeqs, Rises, Seals, Ascend, number_of}
use Rattle.job_queue.specs.History.{Lists}

-- What all lanes and passes of a queue did, with the jobs that are left and the number of the close
-- note.
pub record WholeRun (lanes : List LaneRecord) (passes : List PassRecord) (rest : List QueuedJob)
    (note : ℕ) : Type 0 where
  -- For every function that gives a job a weight, the accepted jobs have the same total as those
  -- taken and those left. So each accepted job was taken once or is left, with the id and the job
  -- of its acceptance.
  pub balance : (weight : QueuedJob → ℕ)
      → total (λ l. total weight (accepted l.entries)) lanes
      ≡ total (λ p. total weight p.taken) passes + total weight rest
  -- The accepted jobs of a lane have the numbers 0, 1, 2 and so on.
  pub seqs : Each (λ l. AreSeqs l.number 0 (accepted l.entries)) lanes
  -- In what a pass took, followed by what is left, the numbers of each lane's jobs rise.
  pub rises : Each (λ p. Rises (p.taken ++ rest)) passes
  -- The same holds in what is left.
  pub rest_rises : Rises rest
  -- The entries of all lanes are the numbers below the close number, each once.
  pub entries : (weight : ℕ → ℕ)
      → total (λ l. total (λ e. weight e.number) l.entries) lanes ≡ below weight note
  -- Each entry has a number below the close number.
  pub entered_before : Each (λ l. Each (λ e. e.number < note) l.entries) lanes
  -- A count that was read with the closed mark is at least the close number.
  pub seen : Each (λ l. Each (λ n. note ≤ n) l.seen) lanes
  -- If a pass read that the queue is sealed, all entries were settled.
  pub sealed : Each (λ p. Each (λ r. Seals r → r.settled ≡ note) p.readings) passes
  -- The numbers of a lane's entries rise.
  pub numbers_rise : Each (λ l. Ascend (map number_of l.entries)) lanes
  -- One legal history has all of it: each entry before its job, and each job before it was taken.
  pub listed : Lists lanes passes rest note
