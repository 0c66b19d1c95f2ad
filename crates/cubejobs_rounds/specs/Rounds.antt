-- What the numbers of callers in C mean.
use Rattle.std.specs.Prelude.{ℕ, ◌^◌, ◌<◌, ◌==◌, if◌then◌else◌, Option, Some, None}
use Rattle.collectives.specs.declared.shape.Shape.{Shape}
use Rattle.collectives.specs.declared.shape.Shape.TheVariants.{Broadcast, Reduce, AllReduce, Scan}
use Rattle.collectives.specs.declared.shape.TheConstants.{DIM_LIMIT}
use Rattle.cubejobs_rounds.specs.declared.answers.TheConstants.{NO_RANK}
use Rattle.cubejobs_rounds.specs.declared.shapes.TheConstants.{BROADCAST, REDUCE, ALLREDUCE, SHAPES}

-- The shape of a number below `SHAPES`.
abbrev pub shape_of : ℕ → Shape
shape_of number =
    if number == BROADCAST then Broadcast
    else if number == REDUCE then Reduce
    else if number == ALLREDUCE then AllReduce
    else Scan

-- The numbers name a collective on `2^k` places, and its root.
abbrev pub IsCollective : ℕ → ℕ → ℕ → Type 0
IsCollective shape k root = (shape < SHAPES) × (k < DIM_LIMIT) × (root < 2 ^ k)

-- The rank of a number, if it is not the one that names no rank.
abbrev pub rank_in : ℕ → Option ℕ
rank_in number = if number == NO_RANK then None else Some number
