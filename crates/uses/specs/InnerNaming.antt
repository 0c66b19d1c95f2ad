-- The queue and the jobs that a run has by its name.
use Rattle.std.specs.Prelude.{ℕ, zero, suc, List, []}
use Rattle.job_types.specs.Job.{JobData}
use Rattle.job_queue.specs.Line.{LineId}

-- The queue of a name that is not picked yet.
abbrev pub no_line : LineId
no_line =
    record { tables = []; sizes = record { machine = 0; lanes = 0; passes = 0; capacity = 0 } }

-- The jobs of each of two lanes.
abbrev pub of_two : List JobData → List JobData → ℕ → List JobData
of_two first second zero = first
of_two first second (suc k) = second
