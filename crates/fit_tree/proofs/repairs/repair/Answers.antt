-- Each room is right, and the taken nodes are those that were topmost.
use Rattle.std.proofs.Common.{◌≡◌, ◌<◌, ◌+◌, ◌^◌, length, refl, ◌∙◌, arith}
use Rattle.std.proofs.Math.ListN.{set}
use Rattle.std.proofs.lemmas.Nat.{pow_pos}
use Rattle.std.proofs.lemmas.List.{get_or-set_same, length-set}
use Rattle.fit_tree.proofs.NodeLemmas.{IsNode-in_cube}
use Rattle.fit_tree.proofs.RepairLemmas.{filled_moves, held_topmost, repaired_right, repaired_sound, repaired_taken, topmost_held}
use Rattle.fit_tree.proofs.repairs.repair.Goals as goal

pub returns-clause-image : goal.returns-clause-image
returns-clause-image c =
    let n = c.args.n in
    let mid = c.sort_all.new.rooms in
    let full = c.fill_all.new.rooms in
    let count : length full ≡ 2 ^ (n + 1) = c.fill_all.ensures.len ∙ c.sort_all.ensures.len ∙ c.requires.rooms in
    let within : 0 < length full = omega (arith, count, pow_pos (n + 1)) in
    let same : length (set full 0 0) ≡ 2 ^ (n + 1) = length-set full 0 0 ∙ count in
    record {
      sound = repaired_sound n (set full 0 0) c.requires.machine same (repaired_right n c.args.rooms.now mid (set full 0 0) c.sort_all.ensures.sorted
          (λ d v node. filled_moves mid full 0 0 d v (IsNode-in_cube n d v node).0 (c.fill_all.ensures.filled d v node)));
      room_count = same;
      no_node = get_or-set_same full 0 0 0 within;
      counted = c.count_all.ensures;
      dim = refl;
      mark = refl;
      unused = refl;
    }

pub returns-clause-held : goal.returns-clause-held
returns-clause-held c =
    let n = c.args.n in
    let mid = c.sort_all.new.rooms in
    let full = c.fill_all.new.rooms in
    let count : length full ≡ 2 ^ (n + 1) = c.fill_all.ensures.len ∙ c.sort_all.ensures.len ∙ c.requires.rooms in
    let same : length (set full 0 0) ≡ 2 ^ (n + 1) = length-set full 0 0 ∙ count in
    let sound = repaired_sound n (set full 0 0) c.requires.machine same (repaired_right n c.args.rooms.now mid (set full 0 0) c.sort_all.ensures.sorted
    (λ d v node. filled_moves mid full 0 0 d v (IsNode-in_cube n d v node).0 (c.fill_all.ensures.filled d v node))) in
    topmost_held n c.args.rooms.now (set full 0 0) sound (repaired_taken n c.args.rooms.now mid (set full 0 0) c.sort_all.ensures.sorted
    (λ d v node. filled_moves mid full 0 0 d v (IsNode-in_cube n d v node).0 (c.fill_all.ensures.filled d v node)))

pub returns-clause-kept : goal.returns-clause-kept
returns-clause-kept c = λ image r.
    let n = c.args.n in
    let mid = c.sort_all.new.rooms in
    let full = c.fill_all.new.rooms in
    let count : length full ≡ 2 ^ (n + 1) = c.fill_all.ensures.len ∙ c.sort_all.ensures.len ∙ c.requires.rooms in
    let same : length (set full 0 0) ≡ 2 ^ (n + 1) = length-set full 0 0 ∙ count in
    let sound = repaired_sound n (set full 0 0) c.requires.machine same (repaired_right n c.args.rooms.now mid (set full 0 0) c.sort_all.ensures.sorted
    (λ d v node. filled_moves mid full 0 0 d v (IsNode-in_cube n d v node).0 (c.fill_all.ensures.filled d v node))) in
    let held = topmost_held n c.args.rooms.now (set full 0 0) sound (repaired_taken n c.args.rooms.now mid (set full 0 0) c.sort_all.ensures.sorted
    (λ d v node. filled_moves mid full 0 0 d v (IsNode-in_cube n d v node).0 (c.fill_all.ensures.filled d v node))) r in
    let was = held_topmost n c.args.rooms.now image.sound r in
    (λ is. was.0 (held.0 is), λ is. held.1 (was.1 is))
