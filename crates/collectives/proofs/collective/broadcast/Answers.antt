use Rattle.std.proofs.Common.{arith, subst, ℕ, ◌+◌, ◌*◌, ◌^◌, ◌<◌, ◌≤◌, ◌≡◌}
use Rattle.std.proofs.lemmas.Nat.{xor_lt, pow-add}
use Rattle.std.proofs.Math.Pow.{pow_mono}
use Rattle.collectives.specs.declared.shape.TheConstants.{DIM_LIMIT}
use Rattle.collectives.proofs.XorLemmas.{HoldsRoot, HoldsRoot-start, HoldsRoot-round, HoldsRoot-all}
use Rattle.collectives.proofs.collective.broadcast.Goals as goal

-- the ranks of a round are within the cube
power_below : (i k : ℕ) → i < k → 2 * 2 ^ i ≤ 2 ^ k
power_below i k within =
    let next = pow-add 2 i 1 in
    let mono : 2 ^ (i + 1) ≤ 2 ^ k = pow_mono (omega arith) in
    omega arith

pub loop-round-init : goal.loop-round-init
loop-round-init g c = HoldsRoot-start c.args.root c.args.items.now

pub broadcast_round-requires-clause-half : goal.broadcast_round-requires-clause-half
broadcast_round-requires-clause-half g c =
    let power = power_below c.loop-round.round c.args.k c.loop-round-test.true in
    let limit = power_below c.args.k DIM_LIMIT c.requires.dim in
    omega (arith, c.distance.ensures, power, limit)

pub broadcast_round-requires-clause-places : goal.broadcast_round-requires-clause-places
broadcast_round-requires-clause-places g c = λ v within.
    (let power = power_below c.loop-round.round c.args.k c.loop-round-test.true in
    let inside = xor_lt c.args.k v c.args.root (omega (arith, c.distance.ensures, power)) c.requires.root in
    omega (arith, inside, c.requires.places, c.loop-round.auto.items))

pub loop-round-preserved : goal.loop-round-preserved
loop-round-preserved g c = HoldsRoot-round c.args.root c.loop-round.round c.distance.result c.args.items.now c.loop-round.items c.broadcast_round.new.items c.distance.ensures c.loop-round.invariant c.broadcast_round.ensures

pub returns-clause-held : goal.returns-clause-held
returns-clause-held g c =
    let last : c.loop-round.round ≡ c.args.k = omega arith in
    HoldsRoot-all c.args.root c.args.k c.args.items.now c.loop-round.items c.requires.root
    (subst (λ i. HoldsRoot c.args.root (2 ^ i) c.args.items.now c.loop-round.items) last c.loop-round.invariant)
