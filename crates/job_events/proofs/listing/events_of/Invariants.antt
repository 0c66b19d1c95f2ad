use Rattle.std.proofs.Common.{[], map, take}
use Rattle.dispatcher.specs.Answers.{all_replies}
use Rattle.job_events.specs.Inner.{ArePairs}
use Rattle.job_events.proofs.listing.events_of.Given as goal

-- The events of the workers so far are there.
abbrev pub invariant-loop-replies : goal.invariant-loop-replies
invariant-loop-replies g l =
    ArePairs (all_replies (map (λ replies. replies.items)
    (take l.replies-index l.finished.by_worker.items)) []) l.events.items
