-- The processors of the blocks of replies.
use Rattle.std.specs.Prelude.{ℕ, ◌+◌, List}
use Rattle.ghost_history.specs.Sums.{total}
use Rattle.job_types.specs.Reply.{ReplyData}
use Rattle.cube_ledger.specs.Ledger.{processors_of, slip_of}

-- The sum of the processors of the blocks of all replies, of the workers and of the rest.
abbrev pub processors_in : List (List ReplyData) → List ReplyData → ℕ
processors_in by_worker rest =
    total (total (λ r. processors_of (slip_of r))) by_worker + total
    (λ r. processors_of (slip_of r)) rest
