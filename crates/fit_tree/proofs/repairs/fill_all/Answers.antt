-- A node is filled after its children.
use Rattle.std.proofs.Common.{◌≡◌, ◌≢◌, ◌<◌, ◌+◌, ◌∙◌, length, refl, sym, ap, subst, arith}
use Rattle.std.proofs.lemmas.Nat.{pow_pos}
use Rattle.std.proofs.lemmas.List.{get_or-set_other, length-set}
use Rattle.fit_tree.specs.Rooms.{room_of}
use Rattle.fit_tree.specs.InnerRepair.{IsFilled}
use Rattle.fit_tree.proofs.NodeLemmas.{IsNode-in_cube, children_inside}
use Rattle.fit_tree.proofs.RepairLemmas.{filled_next, filled_skip}
use Rattle.fit_tree.proofs.repairs.fill_all.Goals as goal
use Rattle.fit_tree.proofs.repairs.fill_all.Goals.{then-rooms-node-eq1, else-rooms-node-eq1}

pub loop-node-init : goal.loop-node-init
loop-node-init c = record {
  len = refl;
  inside = omega (arith, c.requires.rooms, pow_pos (c.args.n + 1));
  filled = λ d v node past. absurd (omega (arith, (IsNode-in_cube c.args.n d v node).1, c.requires.rooms, past));
  others = λ v low. refl;
}

pub joined_room-requires-clause-children : goal.joined_room-requires-clause-children
joined_room-requires-clause-children c = λ inner.
    omega (arith, children_inside c.args.n c.dim_of.result c.loop-node.node inner c.dim_of.ensures, c.requires.rooms, c.loop-node.invariant.len)

pub loop-node-preserved : goal.loop-node-preserved
loop-node-preserved c =
    let inv = c.loop-node.invariant in
    let n = c.args.n in
    let mid = c.args.rooms.now in
    let rooms = c.loop-node.rooms in
    let v = c.loop-node.node in
    let within : v < length rooms = omega (arith, inv.inside, inv.len) in
    let same : room_of rooms v ≡ room_of mid v = inv.others v (omega arith) in
    elim c.if-rooms-node-eq1.branch [
      | then-rooms-node-eq1 w ↦
          let j = w.joined_room.result in
          let one : room_of mid v ≡ 1 = sym same ∙ w.if-rooms-node-eq1.true in
          record {
            len = ap length w.rooms-is ∙ length-set rooms v j ∙ inv.len;
            inside = omega (arith, inv.inside);
            filled = λ e u lower past. subst (λ r. IsFilled mid r e u) (sym w.rooms-is)
                (filled_next n mid rooms j w.dim_of.result v w.dim_of.ensures within one w.joined_room.ensures.leaf w.joined_room.ensures.inner inv.filled e u lower past);
            others = λ u low. ap (λ r. room_of r u) w.rooms-is ∙ get_or-set_other rooms v u j 0 (λ at. omega (arith, at, low)) ∙ inv.others u (omega (arith, low));
          }
      | else-rooms-node-eq1 w ↦
          let other : room_of mid v ≢ 1 = λ one. w.if-rooms-node-eq1.false (same ∙ one) in
          record {
            len = ap length w.rooms-is ∙ inv.len;
            inside = omega (arith, inv.inside);
            filled = λ e u lower past. subst (λ r. IsFilled mid r e u) (sym w.rooms-is) (filled_skip n mid rooms v other same inv.filled e u lower past);
            others = λ u low. ap (λ r. room_of r u) w.rooms-is ∙ inv.others u (omega (arith, low));
          }
    ]
