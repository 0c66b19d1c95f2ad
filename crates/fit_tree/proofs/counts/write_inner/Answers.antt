-- The count of the node's level may change, and that of the level below.
use Rattle.std.proofs.Common.{◌≡◌, ◌-◌, ◌<◌, suc, length, ◌∙◌, IsTrue, arith}
use Rattle.fit_tree.proofs.NodeLemmas.{IsNode-in_cube, children_inside}
use Rattle.fit_tree.proofs.MaximalLemmas.{counted_inner, children_after, children_weigh, own_weighs, own_weighs_after}
use Rattle.fit_tree.proofs.counts.write_inner.Goals as goal

pub bounds-rooms-node : goal.bounds-rooms-node
bounds-rooms-node c = omega (arith, (IsNode-in_cube c.args.n c.args.dim c.args.node c.requires.node).1, c.requires.rooms)

pub is_topped-is_topped-requires-clause-node : goal.is_topped-is_topped-requires-clause-node
is_topped-is_topped-requires-clause-node c = omega (arith, (IsNode-in_cube c.args.n c.args.dim c.args.node c.requires.node).1, c.requires.rooms)

pub whole_children-whole-requires-clause-node : goal.whole_children-whole-requires-clause-node
whole_children-whole-requires-clause-node c = omega (arith, children_inside c.args.n c.args.dim c.args.node c.requires.dim c.requires.node, c.requires.rooms)

pub bounds-rooms-node-2 : goal.bounds-rooms-node-2
bounds-rooms-node-2 c = omega (arith, (IsNode-in_cube c.args.n c.args.dim c.args.node c.requires.node).1, c.requires.rooms)

pub returns-clause-counted : goal.returns-clause-counted
returns-clause-counted c = λ counted.
    let below : c.args.dim ≡ suc (c.args.dim - 1) = omega (arith, c.requires.dim) in
    let inside = (IsNode-in_cube c.args.n c.args.dim c.args.node c.requires.node).0 in
    let within : c.args.node < length c.args.rooms.now = omega (arith, (IsNode-in_cube c.args.n c.args.dim c.args.node c.requires.node).1, c.requires.rooms) in
    let topped = c.is_topped-is_topped.ensures in
    let whole = c.whole_children-whole.ensures.weight in
    let less = c.maximal_children-less_below in
    let more = c.maximal_children-more_below in
    let old = children_weigh c.args.rooms.now c.args.dim (c.args.dim - 1) c.args.node below (omega (arith, inside)) whole.0 whole.1 less.result whole.3 whole.4
    (λ used part. less.ensures.part used part ∙ whole.2) less.ensures.shut in
    let new = children_after c.args.n c.args.dim c.args.node c.args.room c.args.rooms.now c.requires.node within (c.args.dim - 1) whole.0 whole.1 more.result below whole.3 whole.4
    (λ used part. more.ensures.part used part ∙ whole.2) more.ensures.shut in
    counted_inner c.args.n c.args.dim c.args.node c.args.room c.args.rooms.now c.args.counts.now c.change.new.counts c.requires.machine c.requires.node counted
    c.weight_of-less.result c.weight_of-more.result
    (own_weighs c.args.n c.args.dim c.args.node c.args.room c.args.rooms.now c.requires.node (IsTrue c.is_topped-is_topped.result) c.weight_of-less.result topped c.weight_of-less.ensures.weight)
    (own_weighs_after c.args.n c.args.dim c.args.node c.args.room c.args.rooms.now c.requires.node within (IsTrue c.is_topped-is_topped.result) c.weight_of-more.result topped c.weight_of-more.ensures.weight)
    c.weight_of-more.ensures.small c.change.ensures.own c.change.ensures.others
    (c.args.dim - 1) below c.change-2.new.counts old.0 old.1 new.0 new.1 old.3 old.4 new.3 new.4
    (omega (arith, new.2, more.ensures.small, c.whole_children-whole.ensures.small))
    (λ some most. omega (arith, old.2, new.2, c.change-2.ensures.own (omega (arith, old.2, some)) (omega (arith, new.2, most)))) c.change-2.ensures.others
