-- A node is sorted by the new room of its parent.
use Rattle.std.proofs.Common.{◌<◌, length, ◌∙◌, arith}
use Rattle.std.proofs.lemmas.List.{get_or-set_other, length-set}
use Rattle.fit_tree.proofs.NodeLemmas.{IsNode-in_cube}
use Rattle.fit_tree.proofs.RepairLemmas.{sorted_next}
use Rattle.fit_tree.proofs.repairs.sort_all.Goals as goal

pub loop-node-preserved : goal.loop-node-preserved
loop-node-preserved c =
    let inv = c.loop-node.invariant in
    let rooms = c.loop-node.rooms in
    let v = c.loop-node.node in
    let r = c.sort_room.result in
    let within : v < length rooms = omega (arith, (IsNode-in_cube c.args.n c.dim_of.result v c.dim_of.ensures).1, c.requires.rooms, inv.len) in
    record {
      len = length-set rooms v r ∙ inv.len;
      over_root = get_or-set_other rooms v 0 r 0 (λ same. omega (arith, same)) ∙ inv.over_root;
      sorted = sorted_next c.args.n c.args.rooms.now rooms c.dim_of.result v r c.dim_of.ensures within inv.over_root inv.sorted inv.others c.sort_room.ensures.below c.sort_room.ensures.taken c.sort_room.ensures.other;
      others = λ w past. get_or-set_other rooms v w r 0 (λ same. omega (arith, same, past)) ∙ inv.others w (omega (arith, past));
    }

pub returns-clause-sorted : goal.returns-clause-sorted
returns-clause-sorted c = λ d v node.
    c.loop-node.invariant.sorted d v node (omega (arith, (IsNode-in_cube c.args.n d v node).1, c.requires.rooms, c.loop-node.invariant.len))
