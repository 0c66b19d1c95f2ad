use Rattle.std.proofs.Common.{◌-◌, refl, sym, ap, ◌∙◌, arith, rules}
use Rattle.std.specs.Prelude.{if◌then◌else◌, Some, None}
use Rattle.std.proofs.lemmas.Bool.{true≢false}
use Rattle.cube_tree.specs.Handles.{cube_dim}
use Rattle.cube_tree.specs.Hint.{node_of_hint}
use Rattle.cube_tree.proofs.SearchLemmas.{ancestor_in_cube, begins_first, begins_free, begins_after}
use Rattle.cube_tree.proofs.handles.TreeStation.begin_search.Goals as goal

pub peek-station-requires-clause-node : goal.peek-station-requires-clause-node
peek-station-requires-clause-node c = ancestor_in_cube (cube_dim c.args.cube.now - c.args.k) _ c.region_count.ensures.value (cube_dim c.args.cube.now) _ (omega arith) c.in-Some.ensures.above

pub returns-in_default-clause-begins : goal.returns-in_default-clause-begins
returns-in_default-clause-begins c = begins_first (cube_dim c.args.cube.now - c.args.k) _ c.region_count.ensures.value _ _ (c.hint_above.ensures.none (search rules))

pub returns-then-is_occupied-clause-begins : goal.returns-then-is_occupied-clause-begins
returns-then-is_occupied-clause-begins c =
    let finds = c.peek-station.ensures.finds in
    begins_after (cube_dim c.args.cube.now - c.args.k) _ c.region_count.ensures.value _ finds.word _ _ _ finds.entry (ap node_of_hint c.in-Some.ensures.same) c.in-Some.ensures.above c.in-Some.at _ _ refl (finds.answer.0 c.if-is_occupied.true)
    (c.peek-station.ensures.remembers ∙ ap (λ is_occupied. node_of_hint (if is_occupied then Some c.in-Some.at else None)) c.if-is_occupied.true) c.in-Some.ensures.above c.node_after.ensures

pub returns-else-is_occupied-clause-begins : goal.returns-else-is_occupied-clause-begins
returns-else-is_occupied-clause-begins c =
    let finds = c.peek-station.ensures.finds in
    begins_free (cube_dim c.args.cube.now - c.args.k) _ c.region_count.ensures.value _ finds.word _ _ _ finds.entry (ap node_of_hint c.in-Some.ensures.same) c.in-Some.ensures.above _ (λ occupied. true≢false (sym (finds.answer.1 occupied) ∙ c.if-is_occupied.false))
    (c.peek-station.ensures.remembers ∙ ap (λ is_occupied. node_of_hint (if is_occupied then Some c.in-Some.at else None)) c.if-is_occupied.false)
