-- Which messages the rounds of a collective have, and the order in which they are counted.
use Rattle.std.specs.Prelude.{◌≡◌, ℕ, ◌+◌, ◌-◌, ◌*◌, ◌/◌, ◌%◌, ◌^◌, ◌<◌, bit_xor}
use Rattle.cube_shape.specs.Neighbour.{AreNeighboursIn}
use Rattle.collectives.specs.declared.shape.Shape.{Shape}
use Rattle.collectives.specs.declared.shape.Shape.TheVariants.{Broadcast, Reduce, AllReduce, Scan}
use Rattle.collectives.specs.declared.message.Message.{Message}

-- Both ranks are below `2^k` and are neighbours across the bit of the round, which is below `k`.
pub record IsAlongAnEdge (k : ℕ) (m : Message) : Type 0 where
  pub round : m.round < k
  pub from : m.from < 2 ^ k
  pub to : m.to < 2 ^ k
  pub edge : AreNeighboursIn m.round m.from m.to

-- A message of a broadcast: seen from the root, each rank `v` below `2^round` sends to the rank
-- `2^round` after it.
abbrev pub IsBroadcastMessage : ℕ → Message → Type 0
IsBroadcastMessage root m =
    (v : ℕ) × (v < 2 ^ m.round) × (m.from ≡ bit_xor v root)
    × (m.to ≡ bit_xor (v + 2 ^ m.round) root)

-- A message of a reduction. Each rank that agrees with the root in the bits up to that of the round
-- receives from its neighbour across this bit.
abbrev pub IsReduceMessage : ℕ → ℕ → Message → Type 0
IsReduceMessage k root m =
    (m.to < 2 ^ k) × (m.to % 2 ^ (m.round + 1) ≡ root % 2 ^ (m.round + 1))
    × AreNeighboursIn m.round m.to m.from

-- A message of an all-reduce or a scan: each rank sends to its neighbour across the bit of the
-- round.
abbrev pub IsExchangeMessage : ℕ → Message → Type 0
IsExchangeMessage k m = (m.from < 2 ^ k) × AreNeighboursIn m.round m.from m.to

-- The message is one of the collective on `2^k` places, in a round below `k`. An all-reduce, a scan
-- and an exclusive scan have the same messages.
abbrev pub IsMessage : Shape → ℕ → ℕ → Message → Type 0
IsMessage Broadcast k root m = (m.round < k) × IsBroadcastMessage root m
IsMessage Reduce k root m = (m.round < k) × IsReduceMessage k root m
IsMessage AllReduce k root m = (m.round < k) × IsExchangeMessage k m
IsMessage Scan k root m = (m.round < k) × IsExchangeMessage k m

-- The number of messages before a round.
abbrev pub messages_before : Shape → ℕ → ℕ → ℕ
messages_before Broadcast k round = 2 ^ round - 1
messages_before Reduce k round = 2 ^ k - 2 ^ (k - round)
messages_before AllReduce k round = round * 2 ^ k
messages_before Scan k round = round * 2 ^ k

-- The number of messages of the same round before the message. They are ordered by their senders as
-- seen from the root, by their receivers, or by their senders.
abbrev pub number_in_round : Shape → ℕ → Message → ℕ
number_in_round Broadcast root m = bit_xor m.from root
number_in_round Reduce root m = m.to / 2 ^ (m.round + 1)
number_in_round AllReduce root m = m.from
number_in_round Scan root m = m.from

-- The number of messages before the message.
abbrev pub message_number : Shape → ℕ → ℕ → Message → ℕ
message_number shape k root m = messages_before shape k m.round + number_in_round shape root m
