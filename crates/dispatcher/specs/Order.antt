-- The order of replies.
use Rattle.std.specs.Prelude.{◌≡◌, ℕ, List, map, IsSorted}
use Rattle.std.specs.List.{All}
use Rattle.std.specs.Ordering.{nat_cmp, ordering_then}
use Rattle.std.specs.declared.cmp.Ordering.{Ordering}
use Rattle.job_types.specs.Job.{JobData}
use Rattle.job_types.specs.Reply.{ReplyData}
use Rattle.dispatcher.specs.Reply.{answered, IsRight}
use Rattle.dispatcher.specs.Answers.{jobs_with_ids}

-- The order by lane, and within a lane by number (seq).
abbrev pub by_id : ReplyData → ReplyData → Ordering
by_id a b = ordering_then (nat_cmp a.id.lane b.id.lane) (nat_cmp a.id.seq b.id.seq)

-- The replies are sorted by lane, and within a lane by number (seq).
abbrev pub AreSorted : List ReplyData → Type 0
AreSorted replies = IsSorted by_id replies

-- The replies answer the jobs of these lanes one for one, lane by lane, and each is right.
pub record AreInOrder (n : ℕ) (jobs : List (List JobData)) (replies : List ReplyData) : Type 0 where
  pub answers : map answered replies ≡ jobs_with_ids jobs
  pub right : All (IsRight n) replies
