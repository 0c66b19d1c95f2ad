-- Which words of the table a lane has.
use Rattle.std.specs.Prelude.{ℕ, ◌+◌, ◌-◌, ◌*◌, ◌/◌, ◌%◌}
use Rattle.lanes.specs.declared.sizes.TheConstants.{CELLS}
use Rattle.lanes.specs.declared.sizes.Plan.{Plan}

-- The number of words of a lane: the two counts, and two cells for each job that it can hold.
abbrev pub lane_words : ℕ → ℕ
lane_words capacity = CELLS + 2 * capacity

-- The first word of a lane.
abbrev pub lane_start : Plan → ℕ → ℕ
lane_start plan lane = plan.base + lane * lane_words plan.sizes.capacity

-- The number of all words.
abbrev pub all_words : Plan → ℕ
all_words plan = plan.base + plan.sizes.lanes * lane_words plan.sizes.capacity

-- The lane that has the word.
abbrev pub lane_of : Plan → ℕ → ℕ
lane_of plan word = (word - plan.base) / lane_words plan.sizes.capacity

-- The cell for the payload of the job with this number, among the words of its lane. The next cell
-- is that for its dimension.
abbrev pub cell_of : ℕ → ℕ → ℕ
cell_of capacity seq = CELLS + 2 * (seq % capacity)
