-- Each step goes to the first child that has room for the dimension.
use Rattle.std.proofs.Common.{◌≡◌, ◌+◌, ◌-◌, sym, subst, arith}
use Rattle.cube_shape.specs.Node.{OnPath}
use Rattle.cube_shape.proofs.PathLemmas.{OnPath-self}
use Rattle.fit_tree.specs.Rooms.{IsNode}
use Rattle.fit_tree.proofs.NodeLemmas.{IsNode-in_cube}
use Rattle.fit_tree.proofs.WalkLemmas.{Descent, Descent-begin, Descent-left, Descent-right, Descent-whole, Descent-first, down_inside, down_left, down_on_left, down_on_right, down_right}
use Rattle.fit_tree.proofs.walks.go_down.Goals as goal
use Rattle.fit_tree.proofs.walks.go_down.Goals.{then-rooms-node, else-rooms-node}

pub loop-init : goal.loop-init
loop-init c =
    let here : c.args.top ≡ c.args.top + c.args.k - c.args.k = omega arith in
    record {
      node = subst (λ d. IsNode c.args.n d c.args.start) here c.requires.node;
      below = OnPath-self c.args.start (IsNode-in_cube c.args.n c.args.top c.args.start c.requires.node).0;
      descent = λ room. Descent-begin c.args.n c.args.k c.args.rooms.now c.args.top c.args.start c.requires.dim c.requires.node room.enough room.above;
    }

pub bounds-rooms-node : goal.bounds-rooms-node
bounds-rooms-node c =
    omega (arith, down_inside c.args.n c.args.k c.args.top c.loop.counter c.loop.node (omega arith) (omega arith) c.loop.invariant.node, c.requires.rooms)

pub loop-preserved : goal.loop-preserved
loop-preserved c =
    let n = c.args.n in
    let k = c.args.k in
    let top = c.args.top in
    let i = c.loop.counter in
    let inv = c.loop.invariant in
    elim c.if-rooms-node.branch [
      | then-rooms-node w ↦ record {
        node = subst (IsNode n (top + k - (i + 1))) (sym w.node-is) (down_right n k top i c.loop.node (omega arith) (omega arith) inv.node);
        below = subst (OnPath c.args.start) (sym w.node-is) (down_on_right n k top i c.loop.node (omega arith) (omega arith) inv.node c.args.start inv.below);
        descent = λ room. subst (Descent n k c.args.rooms.now top c.args.start (i + 1)) (sym w.node-is)
            (Descent-right n k c.args.rooms.now room.sound top c.args.start i c.loop.node (inv.descent room) (omega arith) (omega arith));
      }
      | else-rooms-node w ↦ record {
        node = subst (IsNode n (top + k - (i + 1))) (sym w.node-is) (down_left n k top i c.loop.node (omega arith) (omega arith) inv.node);
        below = subst (OnPath c.args.start) (sym w.node-is) (down_on_left n k top i c.loop.node (omega arith) (omega arith) inv.node c.args.start inv.below);
        descent = λ room. subst (Descent n k c.args.rooms.now top c.args.start (i + 1)) (sym w.node-is)
            (Descent-left n k c.args.rooms.now room.sound top c.args.start i c.loop.node (inv.descent room) (omega arith) (omega arith));
      }
    ]

pub returns-clause-node : goal.returns-clause-node
returns-clause-node c =
    let all : c.args.top + c.args.k - c.loop.counter ≡ c.args.k = omega arith in
    subst (λ d. IsNode c.args.n d c.loop.node) all c.loop.invariant.node

pub returns-clause-first : goal.returns-clause-first
returns-clause-first c = λ room.
    let all : c.loop.counter ≡ c.args.top = omega arith in
    let descent = subst (λ i. Descent c.args.n c.args.k c.args.rooms.now c.args.top c.args.start i c.loop.node) all (c.loop.invariant.descent room) in
    record {
      whole = Descent-whole c.args.n c.args.k c.args.rooms.now room.sound c.args.top c.args.start c.loop.node descent;
      above = descent.above;
      before = Descent-first c.args.n c.args.k c.args.rooms.now room.sound c.args.top c.args.start c.loop.node descent;
    }
