use Rattle.std.proofs.Common.{◌≡◌, ◌≢◌, ◌⊎◌, ℕ, ◌-◌, ◌<◌, ◌≤◌, [], slice_index_or}
use Rattle.std.specs.Global.{Global}
use Rattle.std.specs.declared.collections.VecDeque.{VecDeque}
use Rattle.job_types.specs.Job.{JobData}
use Rattle.cli_commands.proofs.lanes.open_count.Given as goal

-- the count is that of the lanes so far
abbrev pub invariant-loop-lane : goal.invariant-loop-lane
invariant-loop-lane l = record {
  range : (1 ≤ l.count) × (l.count ≤ l.lane);
  past : (lane : ℕ) (none : VecDeque JobData Global)
      → l.count ≤ lane
      → lane < l.lane
      → (slice_index_or l.lanes lane none).items ≡ [];
  last : (l.count ≡ 1) ⊎ ((none : VecDeque JobData Global)
      → (slice_index_or l.lanes (l.count - 1) none).items ≢ []);
}
