-- The texts of an event, and the events of replies before they are sorted. No public contract cites
-- these.
use Rattle.std.specs.Prelude.{◌≡◌, ℕ, ◌<◌, List, [], ◌∷◌, codes}
use Rattle.job_types.specs.Reply.{ReplyData}
use Rattle.job_events.specs.Events.{free_of, row_of, take_of}
use Rattle.job_events.specs.declared.event.JobEvent.{JobEvent}
use Rattle.job_events.specs.declared.event.Step.{Step}
use Rattle.job_events.specs.declared.event.Step.TheVariants as step

-- The keyword of the command.
abbrev pub command_text : Step → List ℕ
command_text step.Take = codes "take"
command_text step.Free = codes "free"

-- The keyword of the outcome.
abbrev pub outcome_text : Step → List ℕ
outcome_text step.Take = codes "given"
outcome_text step.Free = codes "freed"

-- The two events of a reply.
pub record IsPair (reply : ReplyData) (taken freed : JobEvent) : Type 0 where
  pub take : row_of taken ≡ take_of reply
  pub free : row_of freed ≡ free_of reply
  pub order : taken.number < freed.number

-- The two events of each reply, one pair after the other.
abbrev pub ArePairs : List ReplyData → List JobEvent → Type 0
ArePairs [] events = events ≡ []
ArePairs (reply ∷ replies) events =
    (taken : JobEvent) × (freed : JobEvent) × (more : List JobEvent) × (events ≡ taken ∷ freed ∷ more)
    × IsPair reply taken freed × ArePairs replies more
