use Rattle.std.proofs.Common.{◌≡◌, ◌-◌, ◌^◌, sym, ◌∙◌, ap, subst, arith}
use Rattle.cube_shape.specs.declared.region.Region.{Region}
use Rattle.cube_tree.specs.Handles.{cube_dim, station_entry}
use Rattle.std.specs.Prelude.{nat_eq}
use Rattle.tree_steps.specs.Answer.{ancestor_of}
use Rattle.cube_tree.specs.Hint.{hint_of, hint_after_refusal}
use Rattle.cube_tree.proofs.TryLemmas.{on_level, dim_of_level}
use Rattle.cube_tree.proofs.SearchLemmas.{IsSearch, search_begun, search_more, search_sum, is_onward, refused_each, takes_next, remembers_refused, remembers_taken}
use Rattle.cube_tree.proofs.handles.TreeStation.search.Goals as goal

pub loop-node-init : goal.loop-node-init
loop-node-init c = record {
  of_cube = c.begin_search-station.ensures.cube;
  search = search_begun (cube_dim c.args.cube.now) (cube_dim c.args.cube.now - c.args.k) _ _ _ (station_entry c.args.self) _ c.begin_search-station.ensures.begins;
}

pub try_node-requires-clause-node : goal.try_node-requires-clause-node
try_node-requires-clause-node c =
    let count = c.region_count-first.ensures.value in let low = c.loop-node.invariant.search.low in
    (on_level (cube_dim c.args.cube.now) (cube_dim c.args.cube.now - c.args.k) c.loop-node.node.0 (omega arith) low (omega (arith, count, c.loop-node-test.true))).0

pub returns-in-Ok-clause-taken : goal.returns-in-Ok-clause-taken
returns-in-Ok-clause-taken c =
    let count = c.region_count-first.ensures.value in
    takes_next c.args.cube.now (cube_dim c.args.cube.now - c.args.k) c.loop-node.node.0 c.loop-node.refusal _ _ (station_entry c.args.self) (station_entry c.loop-node.station) c.in-Ok.subcube (omega arith) (omega (arith, count, c.loop-node-test.true)) c.loop-node.invariant.search c.in-Ok.ensures.taken

pub returns-in-Ok-clause-aligned : goal.returns-in-Ok-clause-aligned
returns-in-Ok-clause-aligned c = c.in-Ok.ensures.taken.aligned

pub returns-in-Ok-clause-dimension : goal.returns-in-Ok-clause-dimension
returns-in-Ok-clause-dimension c =
    let count = c.region_count-first.ensures.value in let low = c.loop-node.invariant.search.low in
    ap (λ (r : Region). r.dim) c.in-Ok.ensures.taken.region_is ∙ dim_of_level (cube_dim c.args.cube.now) c.args.k c.loop-node.node.0 c.requires.dim low (omega (arith, count, c.loop-node-test.true))

pub returns-in-Ok-clause-remembers : goal.returns-in-Ok-clause-remembers
returns-in-Ok-clause-remembers c =
    remembers_taken c.args.cube.now (cube_dim c.args.cube.now - c.args.k) c.loop-node.node.0 c.loop-node.refusal c.args.self c.loop-node.station c.in-Ok.subcube c.loop-node.invariant.search c.in-Ok.ensures.taken c.in-Ok.ensures.remembers

pub count-refusal-requires : goal.count-refusal-requires
count-refusal-requires c =
    let sum = search_sum c.loop-node.invariant.search in let high = c.loop-node.invariant.search.high in
    omega (arith, sum, high, c.region_count-first.ensures.value, c.region_count-first.ensures.limit)

pub loop-node-preserved : goal.loop-node-preserved
loop-node-preserved c =
    let count = c.region_count-first.ensures.value in
    let now : hint_of c.remember-station.result ≡ hint_after_refusal (nat_eq c.loop-node.node.0 (2 ^ (cube_dim c.args.cube.now - c.args.k))) (ancestor_of c.in-Err.why) (hint_of c.loop-node.station) =
    c.remember-station.ensures.remembers
    ∙ ap (λ had. hint_after_refusal (nat_eq c.loop-node.node.0 c.region_count-first.result) (ancestor_of c.in-Err.why) had) c.in-Err.ensures.still_remembers
    ∙ ap (λ first. hint_after_refusal (nat_eq c.loop-node.node.0 first) (ancestor_of c.in-Err.why) (hint_of c.loop-node.station)) count
    in
    record {
      of_cube = c.remember-station.ensures.table ∙ c.in-Err.ensures.back;
      search = subst (IsSearch (cube_dim c.args.cube.now) (cube_dim c.args.cube.now - c.args.k) c.node_after-node.result.0 c.count-refusal.result (hint_of c.args.self) (hint_of c.remember-station.result) (station_entry c.args.self)) (sym c.remember-station.ensures.entry)
          (search_more c.loop-node.invariant.search (omega (arith, count, c.loop-node-test.true)) c.in-Err.ensures.refused c.count-refusal.ensures c.node_after-node.ensures now);
    }

pub returns-clause-refused : goal.returns-clause-refused
returns-clause-refused c =
    let count = c.region_count-first.ensures.value in let high = c.loop-node.invariant.search.high in
    refused_each (cube_dim c.args.cube.now) (cube_dim c.args.cube.now - c.args.k) c.loop-node.node.0 c.loop-node.refusal _ _ (station_entry c.args.self) (station_entry c.loop-node.station) (omega arith) (omega (arith, count, high, c.loop-node-test.false)) c.loop-node.invariant.search

pub returns-clause-still_remembers : goal.returns-clause-still_remembers
returns-clause-still_remembers c =
    let count = c.region_count-first.ensures.value in let high = c.loop-node.invariant.search.high in
    remembers_refused (cube_dim c.args.cube.now) (cube_dim c.args.cube.now - c.args.k) c.loop-node.node.0 c.loop-node.refusal c.args.self c.loop-node.station (omega (arith, count, high, c.loop-node-test.false)) c.loop-node.invariant.search

pub loop-node-smaller : goal.loop-node-smaller
loop-node-smaller c = let onward = is_onward c.in-Err.why c.loop-node.node.0 c.node_after-node.result.0 c.node_after-node.ensures in omega (arith, onward, c.loop-node-test.true)
