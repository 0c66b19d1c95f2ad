-- The sibling is to the right of an even node, and to the left of an odd one.
use Rattle.std.proofs.Common.{◌+◌, ◌-◌, Some, arith}
use Rattle.cube_shape.proofs.PathLemmas.{OnPath-self}
use Rattle.fit_tree.proofs.NodeLemmas.{IsNode-in_cube}
use Rattle.fit_tree.proofs.ApartLemmas.{found-entered, found-kept, found-right, found-same, none_found, placed_entered, sibling_inside, sibling_left, sibling_node, sibling_right, widen-taken}
use Rattle.fit_tree.proofs.apart.widen.Goals as goal

pub bounds-rooms-node : goal.bounds-rooms-node
bounds-rooms-node c = omega (arith, (IsNode-in_cube c.args.n c.args.dim c.args.node c.requires.node).1, c.requires.rooms)

pub returns-then-rooms-node-eq0-clause-found : goal.returns-then-rooms-node-eq0-clause-found
returns-then-rooms-node-eq0-clause-found c = λ sound avoid way before.
    widen-taken c.args.n c.args.k c.args.rooms.now avoid c.args.dim c.args.node c.requires.node c.requires.dim way (omega arith)

pub enter-requires-clause-node : goal.enter-requires-clause-node
enter-requires-clause-node c =
    let on = OnPath-self c.args.node (IsNode-in_cube c.args.n c.args.dim c.args.node c.requires.node).0 in
    omega (arith, sibling_inside c.args.n c.args.k c.args.rooms.now c.args.node c.args.dim c.args.node c.requires.node c.requires.dim on (c.args.node + 1) (sibling_right c.args.node (omega arith)), c.requires.rooms)

pub enter-requires-2-clause-node : goal.enter-requires-2-clause-node
enter-requires-2-clause-node c =
    let on = OnPath-self c.args.node (IsNode-in_cube c.args.n c.args.dim c.args.node c.requires.node).0 in
    omega (arith, sibling_inside c.args.n c.args.k c.args.rooms.now c.args.node c.args.dim c.args.node c.requires.node c.requires.dim on (c.args.node - 1) (sibling_left c.args.node (λ even. omega (arith, even))), c.requires.rooms)

pub returns-then-is_some-clause-found : goal.returns-then-is_some-clause-found
returns-then-is_some-clause-found c = λ sound avoid way before.
    found-kept c.args.n c.args.k c.args.rooms.now sound avoid c.args.dim c.args.node c.requires.node c.requires.dim way (λ taken. omega (arith, taken)) (c.args.node + 1) (sibling_right c.args.node (omega arith))
    c.args.found (omega arith) (cc) before

pub returns-then-node-eq0-clause-placed : goal.returns-then-node-eq0-clause-placed
returns-then-node-eq0-clause-placed c =
    let on = OnPath-self c.args.node (IsNode-in_cube c.args.n c.args.dim c.args.node c.requires.node).0 in
    let node = sibling_node c.args.n c.args.k c.args.rooms.now c.args.node c.args.dim c.args.node c.requires.node c.requires.dim on (c.args.node + 1) (sibling_right c.args.node (omega arith)) in
    placed_entered c.args.n c.args.k c.args.dim (c.args.node + 1) c.args.rooms.now c.enter.result node c.enter.ensures.some

pub returns-then-node-eq0-clause-found : goal.returns-then-node-eq0-clause-found
returns-then-node-eq0-clause-found c = λ sound avoid way before.
    found-right c.args.n c.args.k c.args.rooms.now sound avoid c.args.dim c.args.node c.requires.node c.requires.dim way (λ taken. omega (arith, taken)) (c.args.node + 1) (sibling_right c.args.node (omega arith))
    c.enter.result c.enter.ensures.some c.enter.ensures.none (none_found c.args.n c.args.k c.args.rooms.now avoid c.args.node c.args.found (cc) before)

pub returns-in_default-clause-found : goal.returns-in_default-clause-found
returns-in_default-clause-found c = λ sound avoid way before.
    found-same c.args.n c.args.k c.args.rooms.now sound avoid c.args.dim c.args.node c.requires.node c.requires.dim way (λ taken. omega (arith, taken)) (c.args.node - 1) (sibling_left c.args.node (λ even. omega (arith, even)))
    c.args.found c.in_default.ensures.none before

pub returns-clause-placed : goal.returns-clause-placed
returns-clause-placed c =
    let on = OnPath-self c.args.node (IsNode-in_cube c.args.n c.args.dim c.args.node c.requires.node).0 in
    let node = sibling_node c.args.n c.args.k c.args.rooms.now c.args.node c.args.dim c.args.node c.requires.node c.requires.dim on (c.args.node - 1) (sibling_left c.args.node (λ even. omega (arith, even))) in
    placed_entered c.args.n c.args.k c.args.dim (c.args.node - 1) c.args.rooms.now (Some c.in-Some.start) node c.in-Some.ensures.some

pub returns-clause-found : goal.returns-clause-found
returns-clause-found c = λ sound avoid way before.
    found-entered c.args.n c.args.k c.args.rooms.now sound avoid c.args.dim c.args.node c.requires.node c.requires.dim way (λ taken. omega (arith, taken)) (c.args.node - 1) (sibling_left c.args.node (λ even. omega (arith, even)))
    c.in-Some.start c.in-Some.ensures.some (λ order. absurd (omega (arith, order)))
