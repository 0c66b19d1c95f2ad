-- The events of a run: each job takes the block of its reply, and frees it later.
use Rattle.std.specs.Prelude.{◌≡◌, ℕ, ◌<◌, List, [], ◌∷◌, ◌++◌, codes, length, map, slice_index_or, IsPermutation}
use Rattle.std.specs.List.{All, flat_map}
use Rattle.std.specs.Fmt.{decimal}
use Rattle.cube_shape.specs.declared.region.Region.{Region}
use Rattle.job_types.specs.Reply.{ReplyData}
use Rattle.job_types.specs.declared.reply.JobId.{JobId}
use Rattle.jobs_csv.specs.PlaceRows.{place_fields}
use Rattle.jobs_csv.specs.declared.place_rows.PlaceRow.{PlaceRow}
use Rattle.jobs_csv.specs.declared.place_rows.PlaceRow.TheVariants as row
use Rattle.job_events.specs.declared.event.JobEvent.{JobEvent}
use Rattle.job_events.specs.declared.event.Step.{Step}
use Rattle.job_events.specs.declared.event.Step.TheVariants as step

-- The name of a job among the events: `l` and its lane, `s` and its number in the lane.
abbrev pub job_name : JobId → List ℕ
job_name id = codes "l" ++ decimal id.lane ++ codes "s" ++ decimal id.seq

-- The row of `place` by which a job takes its block, or frees it.
abbrev pub step_row : Step → JobId → Region → PlaceRow
step_row step.Take id region = row.Given (job_name id) region.dim region.base
step_row step.Free id region = row.Freed (job_name id) region.dim region.base

-- The row of an event.
abbrev pub row_of : JobEvent → PlaceRow
row_of event =
    step_row event.step (record { lane = event.lane; seq = event.seq })
    (record { base = event.base; dim = event.dim })

-- The fields of the row of an event, as `place` writes them.
abbrev pub event_fields : JobEvent → List (List ℕ)
event_fields event = place_fields (row_of event)

-- The row by which the job of a reply takes its block.
abbrev pub take_of : ReplyData → PlaceRow
take_of reply = step_row step.Take reply.id reply.region

-- The row by which the job of a reply frees its block.
abbrev pub free_of : ReplyData → PlaceRow
free_of reply = step_row step.Free reply.id reply.region

-- One thing is in the list, and the other is at a later place of it.
pub record IsBefore {Thing : Type 0} (things : List Thing) (one other : Thing) : Type 0 where
  pub i : ℕ
  pub j : ℕ
  pub earlier : i < j
  pub within : j < length things
  pub first : slice_index_or things i one ≡ one
  pub second : slice_index_or things j other ≡ other

-- The events are those of these replies. There is one take and one free for each reply, with the
-- name of its job and with its block, and no other event. The take is before the free.
pub record AreEvents (replies : List ReplyData) (events : List JobEvent) : Type 0 where
  pub all : IsPermutation (flat_map (λ reply. take_of reply ∷ free_of reply ∷ []) replies)
      (map row_of events)
  pub ordered : All (λ reply. IsBefore (map row_of events) (take_of reply) (free_of reply)) replies
