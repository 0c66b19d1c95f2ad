-- At the root all nodes apart from the one to avoid were seen.
use Rattle.std.proofs.Common.{◌≡◌, ◌+◌, ◌/◌, suc, subst, arith}
use Rattle.fit_tree.specs.Rooms.{IsNode}
use Rattle.fit_tree.proofs.NodeLemmas.{IsNode-parent}
use Rattle.fit_tree.proofs.RoomLemmas.{whole_is_open}
use Rattle.fit_tree.proofs.ApartLemmas.{found_at_root, found_none, found_some, none_at_root, placed_some, start_above, start_apart, start_before, way_up}
use Rattle.fit_tree.proofs.apart.find_apart.Goals as goal

pub loop-level-preserved : goal.loop-level-preserved
loop-level-preserved c =
    let inv = c.loop-level.invariant in
    let next : suc c.loop-level.level ≡ c.loop-level.level + 1 = omega arith in
    record {
      node = subst (λ d. IsNode c.args.n d (c.loop-level.node / 2)) next (IsNode-parent c.args.n c.loop-level.level c.loop-level.node (omega arith) inv.node);
      way = way_up c.args.n c.args.k c.args.rooms.now c.args.avoid c.loop-level.level c.loop-level.node inv.node (omega arith) inv.way;
      placed = c.widen-found.ensures.placed;
      found = λ sound. c.widen-found.ensures.found sound c.args.avoid inv.way (inv.found sound);
    }

pub returns-in_default-clause-none : goal.returns-in_default-clause-none
returns-in_default-clause-none c = λ sound.
    let inv = c.loop-level.invariant in
    let all : c.loop-level.level ≡ c.args.n = omega (arith, c.requires.node.0, inv.node.0) in
    let found = found_at_root c.args.n c.args.k c.args.rooms.now c.args.avoid c.loop-level.level c.loop-level.node c.loop-level.found all inv.node (inv.found sound) in
    none_at_root c.args.n c.args.k c.args.rooms.now c.args.avoid (found_none c.args.n c.args.k c.args.rooms.now c.args.avoid c.loop-level.found c.in_default.is found)

pub go_down-requires-clause-dim : goal.go_down-requires-clause-dim
go_down-requires-clause-dim c = (placed_some c.args.n c.args.k c.loop-level.found c.in-Some.start c.in-Some.is c.loop-level.invariant.placed).0

pub go_down-requires-clause-node : goal.go_down-requires-clause-node
go_down-requires-clause-node c = (placed_some c.args.n c.args.k c.loop-level.found c.in-Some.start c.in-Some.is c.loop-level.invariant.placed).1

pub returns-clause-open : goal.returns-clause-open
returns-clause-open c = λ sound.
    let inv = c.loop-level.invariant in
    let all : c.loop-level.level ≡ c.args.n = omega (arith, c.requires.node.0, inv.node.0) in
    let found = found_at_root c.args.n c.args.k c.args.rooms.now c.args.avoid c.loop-level.level c.loop-level.node c.loop-level.found all inv.node (inv.found sound) in
    let start = found_some c.args.n c.args.k c.args.rooms.now c.args.avoid c.loop-level.found c.in-Some.start c.in-Some.is found in
    let first = c.go_down.ensures.first (record { sound = sound; enough = start.enough; above = start_above c.args.n c.args.k c.args.rooms.now sound c.args.avoid c.in-Some.start.dim c.in-Some.start.node start }) in
    whole_is_open c.args.n c.args.rooms.now sound c.args.k c.go_down.result c.go_down.ensures.node first.whole first.above

pub returns-clause-apart : goal.returns-clause-apart
returns-clause-apart c = λ sound.
    let inv = c.loop-level.invariant in
    let all : c.loop-level.level ≡ c.args.n = omega (arith, c.requires.node.0, inv.node.0) in
    let found = found_at_root c.args.n c.args.k c.args.rooms.now c.args.avoid c.loop-level.level c.loop-level.node c.loop-level.found all inv.node (inv.found sound) in
    let start = found_some c.args.n c.args.k c.args.rooms.now c.args.avoid c.loop-level.found c.in-Some.start c.in-Some.is found in
    let first = c.go_down.ensures.first (record { sound = sound; enough = start.enough; above = start_above c.args.n c.args.k c.args.rooms.now sound c.args.avoid c.in-Some.start.dim c.in-Some.start.node start }) in
    start_apart c.args.n c.args.k c.args.rooms.now sound c.args.avoid c.in-Some.start.dim c.in-Some.start.node start c.go_down.result c.go_down.ensures.node c.go_down.ensures.below first.before

pub returns-clause-before : goal.returns-clause-before
returns-clause-before c = λ sound.
    let inv = c.loop-level.invariant in
    let all : c.loop-level.level ≡ c.args.n = omega (arith, c.requires.node.0, inv.node.0) in
    let found = found_at_root c.args.n c.args.k c.args.rooms.now c.args.avoid c.loop-level.level c.loop-level.node c.loop-level.found all inv.node (inv.found sound) in
    let start = found_some c.args.n c.args.k c.args.rooms.now c.args.avoid c.loop-level.found c.in-Some.start c.in-Some.is found in
    let first = c.go_down.ensures.first (record { sound = sound; enough = start.enough; above = start_above c.args.n c.args.k c.args.rooms.now sound c.args.avoid c.in-Some.start.dim c.in-Some.start.node start }) in
    start_before c.args.n c.args.k c.args.rooms.now sound c.args.avoid c.in-Some.start.dim c.in-Some.start.node start c.go_down.result c.go_down.ensures.node c.go_down.ensures.below first.before
