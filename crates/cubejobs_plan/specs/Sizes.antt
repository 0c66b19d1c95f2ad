-- How many bytes a planner needs.
use Rattle.std.specs.Prelude.{ℕ, ◌+◌, ◌*◌, ◌^◌}
use Rattle.cubejobs_plan.specs.declared.opening.TheConstants.{JOB_BYTES, NODE_BYTES, OTHER_BYTES}

-- That of a machine of this dimension, with as many jobs.
abbrev pub bytes_of : ℕ → ℕ → ℕ
bytes_of dim jobs = OTHER_BYTES + NODE_BYTES * 2 ^ (dim + 1) + JOB_BYTES * jobs
