-- Slips of replies, and their totals.
use Rattle.std.specs.Prelude.{◌≡◌, ℕ, ◌+◌, ◌-◌, ◌^◌, ◌==◌, Bool, true, cond, List, length}
use Rattle.ghost_history.specs.Sums.{total}
use Rattle.job_types.specs.Reply.{ReplyData}
use Rattle.cube_ledger.specs.declared.slip.Slip.{Slip}
use Rattle.cube_ledger.specs.declared.ledger.Totals.{Totals}

-- The slip of a reply: its id, its block, and how many processors of the block had no item of its
-- job.
abbrev pub slip_of : ReplyData → Slip
slip_of reply =
    record {
      id = reply.id;
      region = reply.region;
      idle = 2 ^ reply.region.dim - length
          reply.job.items;
    }

-- The number of processors of the slip's block.
abbrev pub processors_of : Slip → ℕ
processors_of slip = 2 ^ slip.region.dim

-- Of the slips that pass a test: how many there are, how many processors they have together, and
-- how many of these were idle.
abbrev pub totals_of : (Slip → Bool) → List Slip → Totals
totals_of test slips =
    record {
      jobs = total (λ s. cond (test s) 1 0) slips;
      processors = total
          (λ s. cond (test s) (processors_of s) 0) slips;
      idle = total (λ s. cond (test s) s.idle 0) slips;
    }

-- The job was of this lane.
abbrev pub is_of_lane : ℕ → Slip → Bool
is_of_lane lane slip = slip.id.lane == lane

-- The job ran on a block of this dimension.
abbrev pub is_of_dim : ℕ → Slip → Bool
is_of_dim dim slip = slip.region.dim == dim

-- The test that every slip passes.
abbrev pub is_any : Slip → Bool
is_any slip = true

-- The slips are those of all replies, of the workers and of the rest, and no others. For under any
-- weight the slips weigh as much as the replies.
abbrev pub HasAllSlips : List (List ReplyData) → List ReplyData → List Slip → Type 0
HasAllSlips by_worker rest slips =
    (weight : Slip → ℕ) → total weight slips
    ≡ total (total (λ r. weight (slip_of r))) by_worker + total (λ r. weight (slip_of r)) rest
