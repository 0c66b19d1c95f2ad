-- The theorem: what holds of all jobs, all replies and the machine when a dispatcher has finished.
use Rattle.std.specs.Prelude.{◌≡◌, ℕ, ◌+◌, ◌*◌, ◌<◌, ◌≤◌, List, [], ◌∷◌, ◌++◌, map, length, slice_index}
use Rattle.std.specs.List.{AllByRecursion as Each}
use Rattle.ghost_history.specs.Sums.{total, is_at}
use Rattle.cube_shape.specs.declared.region.Region.{Region}
use Rattle.job_types.specs.Reply.{ReplyData}
use Rattle.job_queue.specs.declared.record.QueuedJob.{QueuedJob}
use Rattle.job_queue.specs.declared.record.LaneRecord.{LaneRecord}
use Rattle.job_queue.specs.Record.{accepted, AreSeqs, Rises}
use Rattle.floors.specs.Floor.{IsWhollyFree}
use Rattle.dispatcher.specs.Reply.{answered, region_of, IsRight}
use Rattle.dispatcher.specs.declared.finishing.Finished.{Finished}

-- The result of `finish`: the replies of each worker, and the replies to the jobs that no worker
-- took. It also has the number of accepted jobs of each lane, and the words of the machine.
pub record Outcome : Type 0 where
  pub by_worker : List (List ReplyData)
  pub rest : List ReplyData
  pub accepted : List ℕ
  pub words : List ℕ

-- A finished dispatcher as an outcome.
abbrev pub outcome : {M : Type 0} → (M → List ℕ) → Finished M → Outcome
outcome words_of finished = record {
  by_worker = map (λ replies. replies.items) finished.by_worker.items;
  rest = finished.rest.items;
  accepted = finished.accepted.items;
  words = words_of finished.machine;
}

-- The weight of the jobs of these replies.
abbrev pub weight_of : (QueuedJob → ℕ) → List ReplyData → ℕ
weight_of weight replies = total weight (map answered replies)

-- 1 for a reply to the job of this lane and number (seq), and 0 for any other reply.
abbrev pub is_to : ℕ → ℕ → ReplyData → ℕ
is_to lane seq reply = is_at lane reply.id.lane * is_at seq reply.id.seq

-- The number of replies to the job of this lane and number (seq).
abbrev pub replies_to : ℕ → ℕ → Outcome → ℕ
replies_to lane seq o = total (total (is_to lane seq)) o.by_worker + total (is_to lane seq) o.rest

-- The lists, with these elements added at the end of the last list.
abbrev pub with_last : {A : Type 0} → List (List A) → List A → List (List A)
with_last [] more = []
with_last (xs ∷ []) more = (xs ++ more) ∷ []
with_last (xs ∷ ys ∷ lists) more = xs ∷ with_last (ys ∷ lists) more

-- The theorem, for a machine of dimension `n`. It is about the records of all lanes, the blocks
-- that each station was granted, the close number, and the result of `finish`.
pub record FinishedRun (n : ℕ) (lanes : List LaneRecord) (grants : List (List Region)) (note : ℕ)
    (o : Outcome) : Type 0 where
  -- For every function that gives a job a weight, the accepted jobs have the same total as those of
  -- all replies. So each accepted job has exactly one reply, with the id and the job of its
  -- acceptance.
  pub balance : (weight : QueuedJob → ℕ)
      → total (λ l. total weight (accepted l.entries)) lanes
      ≡ total (weight_of weight) o.by_worker + weight_of weight o.rest
  -- The accepted jobs of a lane have the numbers 0, 1, 2 and so on, as many as are counted.
  pub seqs : Each (λ l. AreSeqs l.number 0 (accepted l.entries)) lanes
  pub counts : Each (λ l. slice_index o.accepted l.number ≡ length (accepted l.entries)) lanes
  -- Each of these jobs has one reply, and there is no other reply.
  pub answered_once : (lane seq : ℕ) → seq < slice_index o.accepted lane → replies_to lane seq o ≡ 1
  pub no_other : (lane seq : ℕ) → slice_index o.accepted lane ≤ seq → replies_to lane seq o ≡ 0
  -- In the replies of a worker, followed by the rest, the numbers of each lane's jobs rise.
  pub rises : Each (λ replies. Rises (map answered (replies ++ o.rest))) o.by_worker
  pub rest_rises : Rises (map answered o.rest)
  -- No entry came after the close: each has a number below the close number.
  pub entered_before : Each (λ l. Each (λ e. e.number < note) l.entries) lanes
  -- The close number is the count of all entries.
  pub close_number : note ≡ total (λ l. length l.entries) lanes
  -- A count that a lane read together with the closed mark is at least the close number.
  pub seen : Each (λ l. Each (λ count. note ≤ count) l.seen) lanes
  -- Each job ran on a block that was granted. In order, each station was granted the blocks of its
  -- worker's replies, and the last station then those of the rest.
  pub granted : grants ≡ with_last (map (map region_of) o.by_worker) (map region_of o.rest)
  -- Each reply is right.
  pub right : Each (Each (IsRight n)) o.by_worker
  pub rest_right : Each (IsRight n) o.rest
  -- The machine is wholly free.
  pub free : IsWhollyFree n o.words
