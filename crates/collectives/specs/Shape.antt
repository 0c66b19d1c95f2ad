-- The number of rounds and messages of a collective on `2^k` places.
use Rattle.std.specs.Prelude.{ℕ, ◌-◌, ◌*◌, ◌^◌}
use Rattle.collectives.specs.declared.shape.Shape.{Shape}
use Rattle.collectives.specs.declared.shape.Shape.TheVariants.{Broadcast, Reduce, AllReduce, Scan}
use Rattle.collectives.specs.declared.shape.Tally.{Tally}

-- The number of messages of a collective. A broadcast or reduction has one to, or from, each rank
-- except the root. The others have one from each rank in each round.
abbrev pub message_count : Shape → ℕ → ℕ
message_count Broadcast k = 2 ^ k - 1
message_count Reduce k = 2 ^ k - 1
message_count AllReduce k = k * 2 ^ k
message_count Scan k = k * 2 ^ k

-- The rounds and messages of a collective: a round for each dimension.
abbrev pub tally_of : Shape → ℕ → Tally
tally_of shape k = record { rounds = k; messages = message_count shape k }
