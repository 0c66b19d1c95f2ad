-- The node's own room is right, and only its parent's room sees it.
use Rattle.std.proofs.Common.{◌≡◌, ◌<◌, inr, length, sym, ◌∙◌, ap, arith}
use Rattle.std.proofs.lemmas.List.{get_or-set_same, length-set}
use Rattle.fit_tree.specs.Rooms.{room_of}
use Rattle.fit_tree.proofs.NodeLemmas.{IsNode-in_cube}
use Rattle.fit_tree.proofs.ImageLemmas.{room_elsewhere}
use Rattle.fit_tree.proofs.PartLemmas.{set_mends}
use Rattle.fit_tree.proofs.writes.set_room.Goals as goal

pub mend-requires-clause-rooms : goal.mend-requires-clause-rooms
mend-requires-clause-rooms c = ap length c.write_own.ensures.written ∙ length-set c.args.rooms.now c.args.node c.args.room ∙ c.requires.rooms

pub returns-clause-len : goal.returns-clause-len
returns-clause-len c = c.mend.ensures.len ∙ ap length c.write_own.ensures.written ∙ length-set c.args.rooms.now c.args.node c.args.room

pub returns-clause-no_node : goal.returns-clause-no_node
returns-clause-no_node c =
    c.mend.ensures.no_node ∙ room_elsewhere c.args.rooms.now c.write_own.new.rooms c.args.node c.args.room 0 c.write_own.ensures.written
    (λ same. omega (arith, same, (IsNode-in_cube c.args.n c.args.k c.args.node c.requires.node).0))

pub returns-clause-counted : goal.returns-clause-counted
returns-clause-counted c = λ can counted.
    let within : c.args.node < length c.args.rooms.now = omega (arith, (IsNode-in_cube c.args.n c.args.k c.args.node c.requires.node).1, c.requires.rooms) in
    let mends = set_mends c.args.n c.args.k c.args.node c.args.room c.args.rooms.now c.write_own.new.rooms c.write_own.ensures.written c.requires.node c.requires.room can within in
    c.mend.ensures.counted mends (c.write_own.ensures.counted (inr (can.below, c.requires.room)) counted)

pub returns-clause-sound : goal.returns-clause-sound
returns-clause-sound c = λ can.
    let within : c.args.node < length c.args.rooms.now = omega (arith, (IsNode-in_cube c.args.n c.args.k c.args.node c.requires.node).1, c.requires.rooms) in
    let mends = set_mends c.args.n c.args.k c.args.node c.args.room c.args.rooms.now c.write_own.new.rooms c.write_own.ensures.written c.requires.node c.requires.room can within in
    c.mend.ensures.sound mends

pub returns-clause-others : goal.returns-clause-others
returns-clause-others c = λ can u other.
    let within : c.args.node < length c.args.rooms.now = omega (arith, (IsNode-in_cube c.args.n c.args.k c.args.node c.requires.node).1, c.requires.rooms) in
    let mends = set_mends c.args.n c.args.k c.args.node c.args.room c.args.rooms.now c.write_own.new.rooms c.write_own.ensures.written c.requires.node c.requires.room can within in
    let kept = c.mend.ensures.taken mends u in
    let same = room_elsewhere c.args.rooms.now c.write_own.new.rooms c.args.node c.args.room u c.write_own.ensures.written other in
    (λ is. sym same ∙ kept.0 is, λ is. kept.1 (same ∙ is))

pub returns-clause-own : goal.returns-clause-own
returns-clause-own c = λ can.
    let within : c.args.node < length c.args.rooms.now = omega (arith, (IsNode-in_cube c.args.n c.args.k c.args.node c.requires.node).1, c.requires.rooms) in
    let mends = set_mends c.args.n c.args.k c.args.node c.args.room c.args.rooms.now c.write_own.new.rooms c.write_own.ensures.written c.requires.node c.requires.room can within in
    let own : room_of c.write_own.new.rooms c.args.node ≡ c.args.room = ap (λ r. room_of r c.args.node) c.write_own.ensures.written ∙ get_or-set_same c.args.rooms.now c.args.node c.args.room 0 within in
    let kept = c.mend.ensures.taken mends c.args.node in
    (λ is. sym own ∙ kept.0 is, λ is. kept.1 (own ∙ is))
