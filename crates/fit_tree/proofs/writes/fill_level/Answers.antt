use Rattle.std.proofs.Common.{◌≡◌, ◌*◌, ◌%◌, ◌^◌, ◌≤◌, arith}
use Rattle.std.proofs.lemmas.Nat.{one_shl}
use Rattle.std.proofs.Math.Pow.{pow_mono}
use Rattle.fit_tree.proofs.NodeLemmas.{all_nodes}
use Rattle.fit_tree.proofs.writes.fill_level.Goals as goal

pub fill-requires-clause-end : goal.fill-requires-clause-end
fill-requires-clause-end c =
    let first : 1 * 2 ^ c.args.depth % 2 ^ 64 ≡ 2 ^ c.args.depth = one_shl c.args.depth 64 (omega arith) in
    let below : 2 ^ c.args.depth ≤ 2 ^ c.args.n = pow_mono c.requires.depth in
    omega (arith, first, below, all_nodes c.args.n, c.requires.rooms)
