use Rattle.std.proofs.Common.{◌+◌, ◌-◌, ◌*◌, ◌%◌, ◌^◌, sym, subst, arith}
use Rattle.std.proofs.Math.Nat.{mod-eq_of_lt}
use Rattle.cube_tree.specs.InnerSearch.{NamesAncestor, IsNodeAfter}
use Rattle.cube_tree.proofs.SearchLemmas.{ancestor_steps}
use Rattle.cube_tree.proofs.search.node_after.Goals as goal

pub overflow_sub-levels : goal.overflow_sub-levels
overflow_sub-levels c =
    let names = subst (λ w. NamesAncestor w c.args.node.0) c.in-Under.is c.requires.names in
    (ancestor_steps c.in-Under.at.0 c.args.node.0 c.ilog2-2.result c.ilog2.result c.ilog2-2.ensures.power_le c.ilog2-2.ensures.next_power_gt c.ilog2.ensures.power_le c.ilog2.ensures.next_power_gt names.0).0

pub returns : goal.returns
returns c =
    let names = subst (λ w. NamesAncestor w c.args.node.0) c.in-Under.is c.requires.names in
    let steps = ancestor_steps c.in-Under.at.0 c.args.node.0 c.ilog2-2.result c.ilog2.result c.ilog2-2.ensures.power_le c.ilog2-2.ensures.next_power_gt c.ilog2.ensures.power_le c.ilog2.ensures.next_power_gt names.0 in
    subst (λ w. IsNodeAfter w c.args.node.0 ((c.in-Under.at.0 + 1) * 2 ^ (c.ilog2.result - c.ilog2-2.result) % 2 ^ 64)) (sym c.in-Under.is)
    (c.ilog2.result - c.ilog2-2.result, steps.1, mod-eq_of_lt (let most = steps.2 in let low = c.ilog2.ensures.power_le in let limit = c.requires.limit in omega (arith, most, low, limit)))
