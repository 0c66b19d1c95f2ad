-- The list of messages has exactly what a test of one message finds.
use Rattle.std.proofs.Common.{◌≡◌, ℕ, ◌+◌, ◌^◌, ◌<◌, refl, sym, ◌∙◌, ap, subst}
use Rattle.std.specs.Prelude.{bit_xor}
use Rattle.std.proofs.lemmas.Nat.{xor_comm, xor_lt, pow_below}
use Rattle.cube_shape.specs.Neighbour.{AreNeighboursIn}
use Rattle.collectives.specs.declared.shape.Shape.{Shape}
use Rattle.collectives.specs.declared.message.Message.{Message}
use Rattle.collectives.specs.Messages.{IsAlongAnEdge, IsBroadcastMessage, IsMessage, message_number}
use Rattle.collectives.specs.Inner.OperationLaws.{xor_assoc}
use Rattle.collectives.proofs.MessageLemmas.{IsMessage-edge, message_number-within}
use Rattle.collectives.proofs.XorLemmas.{xor_back, add_is_xor}
use Rattle.collectives.specs.Steps.{IsListed, message}

pub IsListed-of : (shape : Shape) (k root : ℕ) (m : Message)
    → IsMessage shape k root m
    → IsListed shape k root m
IsListed-of shape k root m is = (message_number shape k root m, (message_number-within shape k root m is, is, refl))

-- two neighbours make an edge
pub IsAlongAnEdge-of : (k round from to : ℕ)
    → round < k
    → from < 2 ^ k
    → AreNeighboursIn round from to
    → IsAlongAnEdge k (message round from to)
IsAlongAnEdge-of k round from to round_within from_within are = record {
  round = round_within;
  from = from_within;
  to = subst (λ x. x < 2 ^ k) (sym are) (xor_lt k from (2 ^ round) from_within (pow_below round k round_within));
  edge = are;
}

-- and so they do in the other direction
pub IsAlongAnEdge-back : (k round from to : ℕ)
    → round < k
    → from < 2 ^ k
    → AreNeighboursIn round from to
    → IsAlongAnEdge k (message round to from)
IsAlongAnEdge-back k round from to round_within from_within are =
    let along = IsAlongAnEdge-of k round from to round_within from_within are in record {
      round = round_within;
      from = along.to;
      to = from_within;
      edge = sym (xor_back from (2 ^ round)) ∙ ap (λ x. bit_xor x (2 ^ round)) (sym are);
    }

-- the receiver of a listed message is the sender's neighbour, and no other rank
pub IsListed-to : (shape : Shape) (k root round from to partner : ℕ)
    → root < 2 ^ k
    → AreNeighboursIn round from partner
    → IsListed shape k root (message round from to)
    → to ≡ partner
IsListed-to shape k root round from to partner root_within are (i, (within, is, number)) =
    (IsMessage-edge shape k root (message round from to) root_within is).edge ∙ sym are

-- and so is its sender the receiver's
pub IsListed-from : (shape : Shape) (k root round from to partner : ℕ)
    → root < 2 ^ k
    → AreNeighboursIn round to partner
    → IsListed shape k root (message round from to)
    → from ≡ partner
IsListed-from shape k root round from to partner root_within are (i, (within, is, number)) =
    let edge = (IsMessage-edge shape k root (message round from to) root_within is).edge in
    sym (xor_back from (2 ^ round)) ∙ ap (λ x. bit_xor x (2 ^ round)) (sym edge) ∙ sym are

-- seen from the root, the sender of a broadcast's message is below the bit of the round
pub IsBroadcastMessage-of : (k root : ℕ) (m : Message)
    → IsAlongAnEdge k m
    → bit_xor m.from root < 2 ^ m.round
    → IsBroadcastMessage root m
IsBroadcastMessage-of k root m along below =
    let seen = bit_xor m.from root in
    let turned : bit_xor (seen + 2 ^ m.round) root ≡ bit_xor m.from (2 ^ m.round) =
    ap (λ x. bit_xor x root) (add_is_xor seen m.round below) ∙ xor_assoc seen (2 ^ m.round) root
    ∙ ap (bit_xor seen) (xor_comm (2 ^ m.round) root) ∙ sym (xor_assoc seen root (2 ^ m.round))
    ∙ ap (λ x. bit_xor x (2 ^ m.round)) (xor_back m.from root) in
    (seen, below, sym (xor_back m.from root), along.edge ∙ sym turned)

pub IsBroadcastMessage-below : (root : ℕ) (m : Message)
    → IsBroadcastMessage root m
    → bit_xor m.from root < 2 ^ m.round
IsBroadcastMessage-below root m (v, within, from, to) =
    subst (λ x. x < 2 ^ m.round) (sym (ap (λ x. bit_xor x root) from ∙ xor_back v root)) within
