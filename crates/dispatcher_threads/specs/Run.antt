-- The outcome of the jobs that were passed to a run, in the values that it returns.
use Rattle.std.specs.Prelude.{◌≡◌, ℕ, ◌<◌, ◌≤◌, ◌++◌, List, [], ◌∷◌, Option, Some, None, IsSome, map, length, take, drop, slice_index, slice_index_or}
use Rattle.std.specs.List.{All, AllByRecursion as Each, AllZip}
use Rattle.ghost_history.specs.Sums.{times, total}
use Rattle.cube_shape.specs.declared.limits.TheConstants.{MAX_ENTRIES}
use Rattle.job_types.specs.Job.{JobData}
use Rattle.job_types.specs.Reply.{ReplyData}
use Rattle.job_queue.specs.Record.{Rises}
use Rattle.floors.specs.Floor.{IsWhollyFree}
use Rattle.dispatcher.specs.declared.feeding.FeedStop.{FeedStop}
use Rattle.dispatcher.specs.declared.feeding.FeedStop.TheVariants.{Done, Closed, LaneSpent, Turns}
use Rattle.dispatcher.specs.declared.stop.Stop.TheVariants.{NotRun}
use Rattle.dispatcher.specs.Reply.{answered}
use Rattle.dispatcher.specs.Stop.{given_back}
use Rattle.dispatcher.specs.Answers.{AnswersAll}
use Rattle.dispatcher_threads.specs.declared.running.LaneEnd.{LaneEnd}
use Rattle.dispatcher_threads.specs.declared.running.RunEnd.{RunEnd}

-- The jobs that the lane did not submit: the one that came back, if one did, and those after it.
abbrev pub unfed_jobs : LaneEnd → List JobData
unfed_jobs end = given_back end.back ++ end.left.items

-- The reason of a feed's stop agrees with the end of its lane. A lane that never ran has made no
-- entry, and no job came back. With `Done` no job is left. With `Closed` a job came back, and the
-- lane saw a count of entries that is at least the close number. With `LaneSpent` a job came back,
-- and the lane has made as many entries as a lane may. No feed of a run stops with `Turns`.
abbrev pub IsStopOf : ℕ → LaneEnd → Option FeedStop → Type 0
IsStopOf close_number end None = (end.entries ≡ 0) × (end.back ≡ None)
IsStopOf close_number end (Some Done) = unfed_jobs end ≡ []
IsStopOf close_number end (Some (Closed seen)) = IsSome end.back × (close_number ≤ seen)
IsStopOf close_number end (Some LaneSpent) = IsSome end.back × (MAX_ENTRIES ≤ end.entries)
IsStopOf close_number end (Some Turns) = ⊥

-- The end of a lane, by the jobs of all lanes, the counts of accepted jobs and the close number.
pub record IsLaneEnd (jobs : List (List JobData)) (counts : List ℕ) (close_number : ℕ)
    (end : LaneEnd) : Type 0 where
  pub counted : end.accepted ≡ slice_index counts end.lane
  -- It accepted the first jobs of its list, and the others are still there.
  pub within : end.accepted ≤ length (slice_index_or jobs end.lane [])
  pub unfed : unfed_jobs end ≡ drop end.accepted (slice_index_or jobs end.lane [])
  -- Each accepted job has cost an entry.
  pub entries : end.accepted ≤ end.entries
  pub stopped : IsStopOf close_number end end.stop

-- The accepted jobs of each lane: the first ones of its list, as many as are counted.
abbrev pub accepted_of : List (List JobData) → List ℕ → List (List JobData)
accepted_of [] counts = []
accepted_of (jobs ∷ lanes) [] = []
accepted_of (jobs ∷ lanes) (count ∷ counts) = take count jobs ∷ accepted_of lanes counts

-- The replies of each worker of a run.
abbrev pub by_worker_of : {M : Type 0} → RunEnd M → List (List ReplyData)
by_worker_of end = map (λ replies. replies.items) end.finished.by_worker.items

-- What the values of a run say together, for the machine's dimension and the jobs of each lane.
pub record IsRun {M : Type 0} (words_of : M → List ℕ) (n : ℕ) (jobs : List (List JobData))
    (end : RunEnd M) : Type 0 where
  -- There is one end of each lane.
  pub lane_count : length end.lanes.items ≡ length jobs
  pub lanes : (k : ℕ) → k < length jobs → times k (map (λ l. l.lane) end.lanes.items) ≡ 1
  pub counts : length end.finished.accepted.items ≡ length jobs
  pub ends : All (IsLaneEnd jobs end.finished.accepted.items end.close_number) end.lanes.items
  -- The close number is how many entries came before the close. It is the sum of all entries that
  -- were made, so none came after the close, and neither did an accepted job.
  pub close_number : end.close_number ≡ total (λ l. l.entries) end.lanes.items
  -- Each accepted job has one right reply, under its id, and there is no other reply.
  pub answers : AnswersAll n (accepted_of jobs end.finished.accepted.items) (by_worker_of end)
      end.finished.rest.items
  -- In the replies of a worker, followed by the rest, the numbers of each lane's jobs rise.
  pub rises : Each (λ replies. Rises (map answered (replies ++ end.finished.rest.items)))
      (by_worker_of end)
  pub rest_rises : Rises (map answered end.finished.rest.items)
  -- There is a reason for each worker's stop. A worker that never ran has no replies.
  pub stops : AllZip (λ stop replies. stop ≡ NotRun → replies ≡ []) end.stops.items
      (by_worker_of end)
  -- The machine is wholly free.
  pub free : IsWhollyFree n (words_of end.finished.machine)
