use Rattle.std.proofs.Common.{arith, ap, ℕ, ◌+◌, ◌-◌, ◌^◌, ◌<◌, ◌≤◌, refl}
use Rattle.std.specs.Prelude.{bit_xor}
use Rattle.collectives.proofs.MessageLemmas.{exponent_below}
use Rattle.collectives.proofs.messages.broadcast_message.Goals as goal

-- the round is one of the k
is_round : (k i round : ℕ) → i < 2 ^ k - 1 → 2 ^ round ≤ i + 1 → round < k
is_round k i round number power_le = exponent_below round k (omega arith)

pub places-half-requires : goal.places-half-requires
places-half-requires c =
    let within = is_round c.args.k c.args.i c.ilog2-round.result c.requires.number c.ilog2-round.ensures.power_le in
    let dim = c.requires.dim in
    omega arith

pub returns-clause-message : goal.returns-clause-message
returns-clause-message c =
    let within = is_round c.args.k c.args.i c.ilog2-round.result c.requires.number c.ilog2-round.ensures.power_le in
    (within, (c.args.i + 1 - c.places-half.result, omega arith, refl, ap (λ half. bit_xor (c.args.i + 1 - c.places-half.result + half) c.args.root) c.places-half.ensures))
