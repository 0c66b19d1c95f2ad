-- The messages of a collective by their numbers, and one message of a rank.
use Rattle.std.specs.Prelude.{◌≡◌, ℕ, ◌<◌}
use Rattle.collectives.specs.declared.message.Message.{Message}
use Rattle.collectives.specs.declared.shape.Shape.{Shape}
use Rattle.collectives.specs.Shape.{message_count}
use Rattle.collectives.specs.Messages.{IsMessage, message_number}

-- The message of a round from one rank to another.
abbrev pub message : ℕ → ℕ → ℕ → Message
message round from to = record { round = round; from = from; to = to }

-- The message is number `i` of those of the collective on `2^k` places. The function
-- `messages_are_listed_once` proves that no other message is.
abbrev pub IsNumber : Shape → ℕ → ℕ → ℕ → Message → Type 0
IsNumber shape k root i m =
    (i < message_count shape k) × IsMessage shape k root m × (message_number shape k root m ≡ i)

-- The list of the collective's messages has the message.
abbrev pub IsListed : Shape → ℕ → ℕ → Message → Type 0
IsListed shape k root m = (i : ℕ) × IsNumber shape k root i m
