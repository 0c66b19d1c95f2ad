-- Only the count of the node's own dimension may change.
use Rattle.std.proofs.Common.{◌≡◌, ◌-◌, ◌<◌, inl, inr, suc, length, refl, ◌∙◌, IsTrue, arith}
use Rattle.std.proofs.Math.ListN.{set}
use Rattle.std.proofs.lemmas.Bool.{cases_eq}
use Rattle.std.proofs.lemmas.List.{get_or-set_same}
use Rattle.fit_tree.specs.Rooms.{room_of}
use Rattle.fit_tree.proofs.NodeLemmas.{IsNode-in_cube}
use Rattle.fit_tree.proofs.MaximalLemmas.{children_none, counted_inner, counted_leaf, own_weighs, own_weighs_after}
use Rattle.fit_tree.proofs.counts.write_own.Goals as goal

pub bounds-rooms-node : goal.bounds-rooms-node
bounds-rooms-node c = omega (arith, (IsNode-in_cube c.args.n c.args.dim c.args.node c.requires.node).1, c.requires.rooms)

pub is_topped-is_topped-requires-clause-node : goal.is_topped-is_topped-requires-clause-node
is_topped-is_topped-requires-clause-node c = omega (arith, (IsNode-in_cube c.args.n c.args.dim c.args.node c.requires.node).1, c.requires.rooms)

pub bounds-rooms-node-2 : goal.bounds-rooms-node-2
bounds-rooms-node-2 c = omega (arith, (IsNode-in_cube c.args.n c.args.dim c.args.node c.requires.node).1, c.requires.rooms)

pub returns-clause-counted : goal.returns-clause-counted
returns-clause-counted c = λ ends counted.
    let inside = (IsNode-in_cube c.args.n c.args.dim c.args.node c.requires.node).0 in
    let within : c.args.node < length c.args.rooms.now = omega (arith, (IsNode-in_cube c.args.n c.args.dim c.args.node c.requires.node).1, c.requires.rooms) in
    let topped = c.is_topped-is_topped.ensures in
    let written : room_of (set c.args.rooms.now c.args.node c.args.room) c.args.node ≡ c.args.room = get_or-set_same c.args.rooms.now c.args.node c.args.room 0 within in
    let less = own_weighs c.args.n c.args.dim c.args.node c.args.room c.args.rooms.now c.requires.node (IsTrue c.is_topped-is_topped.result) c.weight_of-less.result topped c.weight_of-less.ensures.weight in
    let more = own_weighs_after c.args.n c.args.dim c.args.node c.args.room c.args.rooms.now c.requires.node within (IsTrue c.is_topped-is_topped.result) c.weight_of-more.result topped c.weight_of-more.ensures.weight in
    elim (cases_eq c.args.dim 0) [
      | inl leaf ↦
          counted_leaf c.args.n c.args.dim c.args.node c.args.room c.args.rooms.now c.args.counts.now c.change.new.counts c.requires.machine c.requires.node counted
          c.weight_of-less.result c.weight_of-more.result less more c.weight_of-more.ensures.small c.change.ensures.own c.change.ensures.others leaf
      | inr inner ↦ elim ends [
        | inl leaf ↦ absurd (inner leaf)
        | inr both ↦
            let below : c.args.dim ≡ suc (c.args.dim - 1) = omega (arith, inner) in
            let old = children_none c.args.rooms.now c.args.dim (c.args.dim - 1) c.args.node below (omega (arith, inside)) both.0 in
            let new = children_none (set c.args.rooms.now c.args.node c.args.room) c.args.dim (c.args.dim - 1) c.args.node below (omega (arith, inside))
            (elim (both.1) [ inl none ↦ inl (written ∙ none) | inr whole ↦ inr (written ∙ whole) ]) in
            counted_inner c.args.n c.args.dim c.args.node c.args.room c.args.rooms.now c.args.counts.now c.change.new.counts c.requires.machine c.requires.node counted
            c.weight_of-less.result c.weight_of-more.result less more c.weight_of-more.ensures.small c.change.ensures.own c.change.ensures.others
            (c.args.dim - 1) below c.change.new.counts old.0 old.1 new.0 new.1 old.3 old.4 new.3 new.4
            (omega (arith, new.2)) (λ some most. omega (arith, old.2, new.2)) (λ d other. refl)
      ]
    ]
