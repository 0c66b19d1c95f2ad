-- The logarithm of a node is its level.
use Rattle.std.proofs.Common.{◌≡◌, ◌-◌, ◌^◌, ap, arith}
use Rattle.fit_tree.proofs.RepairLemmas.{log_fits}
use Rattle.fit_tree.proofs.repairs.dim_of.Goals as goal

pub overflow_sub-result : goal.overflow_sub-result
overflow_sub-result c = log_fits c.args.n c.ilog2.result c.args.node c.ilog2.ensures.power_le c.requires.1

pub returns : goal.returns
returns c =
    let fits = log_fits c.args.n c.ilog2.result c.args.node c.ilog2.ensures.power_le c.requires.1 in
    let level : c.args.n - (c.args.n - c.ilog2.result) ≡ c.ilog2.result = omega (arith, fits) in
    let power : 2 ^ (c.args.n - (c.args.n - c.ilog2.result)) ≡ 2 ^ c.ilog2.result = ap (λ i. 2 ^ i) level in
    (omega arith, omega (arith, power, c.ilog2.ensures.power_le), omega (arith, power, c.ilog2.ensures.next_power_gt))
