use Rattle.std.proofs.Common.{◌++◌, List, take}
use Rattle.job_types.specs.Reply.{ReplyData}
use Rattle.job_events.specs.Inner.{ArePairs}
use Rattle.job_events.proofs.listing.push_pairs.Given as goal

-- The events of the replies so far are added.
abbrev pub invariant-loop-reply : goal.invariant-loop-reply
invariant-loop-reply l =
    (before : List ReplyData) → ArePairs before l.initial.events.items
    → ArePairs (before ++ take l.reply-index l.replies) l.events.items
