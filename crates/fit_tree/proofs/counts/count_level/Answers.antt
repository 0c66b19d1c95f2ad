-- As many nodes are counted as the level has, at most.
use Rattle.std.proofs.Common.{◌≡◌, ◌+◌, ◌-◌, ◌*◌, ◌%◌, ◌^◌, subst, arith}
use Rattle.std.proofs.lemmas.Nat.{one_shl}
use Rattle.alloc_bits.specs.Count.{IsCount}
use Rattle.fit_tree.specs.InnerNodes.{Weighs}
use Rattle.fit_tree.specs.Image.{IsMaximal}
use Rattle.fit_tree.proofs.CountLemmas.{count_bound, count_more, count_nothing}
use Rattle.fit_tree.proofs.MaximalLemmas.{MaximalIn, level_end, level_small}
use Rattle.fit_tree.proofs.counts.count_level.Goals as goal

pub weigh-count-requires-clause-node : goal.weigh-count-requires-clause-node
weigh-count-requires-clause-node c =
    let first : 1 * 2 ^ (c.args.n - c.args.dim) % 2 ^ 64 ≡ 2 ^ (c.args.n - c.args.dim) = one_shl (c.args.n - c.args.dim) 64 (omega arith) in
    omega (arith, first, level_end c.args.n c.args.dim c.requires.dim, c.requires.rooms)

pub overflow_add-count : goal.overflow_add-count
overflow_add-count c =
    let first : 1 * 2 ^ (c.args.n - c.args.dim) % 2 ^ 64 ≡ 2 ^ (c.args.n - c.args.dim) = one_shl (c.args.n - c.args.dim) 64 (omega arith) in
    omega (arith, first, count_bound (MaximalIn c.args.n c.args.rooms.now c.args.dim) (c.loop-node.node - 2 ^ (c.args.n - c.args.dim)) c.loop-node.count c.loop-node.invariant, level_small c.args.n c.args.dim c.requires.machine, c.weigh-count.ensures.small)

pub loop-node-init : goal.loop-node-init
loop-node-init c =
    let first : 1 * 2 ^ (c.args.n - c.args.dim) % 2 ^ 64 ≡ 2 ^ (c.args.n - c.args.dim) = one_shl (c.args.n - c.args.dim) 64 (omega arith) in
    let none : 0 ≡ 1 * 2 ^ (c.args.n - c.args.dim) % 2 ^ 64 - 2 ^ (c.args.n - c.args.dim) = omega (arith, first) in
    let P = MaximalIn c.args.n c.args.rooms.now c.args.dim in
    subst (λ bound. IsCount P bound 0) none (count_nothing P)

pub loop-node-preserved : goal.loop-node-preserved
loop-node-preserved c =
    let first : 1 * 2 ^ (c.args.n - c.args.dim) % 2 ^ 64 ≡ 2 ^ (c.args.n - c.args.dim) = one_shl (c.args.n - c.args.dim) 64 (omega arith) in
    let next : c.loop-node.node - 2 ^ (c.args.n - c.args.dim) + 1 ≡ c.loop-node.node + 1 - 2 ^ (c.args.n - c.args.dim) = omega (arith, first) in
    let here : c.loop-node.node ≡ 2 ^ (c.args.n - c.args.dim) + (c.loop-node.node - 2 ^ (c.args.n - c.args.dim)) = omega (arith, first) in
    let P = MaximalIn c.args.n c.args.rooms.now c.args.dim in
    subst (λ bound. IsCount P bound (c.loop-node.count + c.weigh-count.result)) next
    (count_more P (c.loop-node.node - 2 ^ (c.args.n - c.args.dim)) c.loop-node.count c.weigh-count.result c.loop-node.invariant
    (subst (λ v. Weighs (IsMaximal c.args.rooms.now c.args.dim v) c.weigh-count.result) here c.weigh-count.ensures.weight))

pub returns : goal.returns
returns c =
    let first : 1 * 2 ^ (c.args.n - c.args.dim) % 2 ^ 64 ≡ 2 ^ (c.args.n - c.args.dim) = one_shl (c.args.n - c.args.dim) 64 (omega arith) in
    let all : c.loop-node.node - 2 ^ (c.args.n - c.args.dim) ≡ 2 ^ (c.args.n - c.args.dim) = omega (arith, first) in
    subst (λ bound. IsCount (MaximalIn c.args.n c.args.rooms.now c.args.dim) bound c.loop-node.count) all c.loop-node.invariant
