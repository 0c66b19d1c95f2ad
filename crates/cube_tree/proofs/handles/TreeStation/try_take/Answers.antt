use Rattle.std.proofs.Common.{◌≡◌, ◌+◌, ◌-◌, ◌^◌, sym, ◌∙◌, ap, subst, arith}
use Rattle.cube_shape.specs.declared.region.Region.{Region}
use Rattle.cube_shape.specs.Node.{IsInCube}
use Rattle.cube_tree.specs.Handles.{cube_dim, station_entry, IsRefusedTry, TakesNode}
use Rattle.cube_tree.specs.Tries.{Tries}
use Rattle.cube_tree.proofs.TryLemmas.{node_of_level, dim_of_level, tries_sum, refused_all, takes_one, one_more}
use Rattle.cube_tree.proofs.handles.TreeStation.try_take.Goals as goal

pub try_node-requires-clause-node : goal.try_node-requires-clause-node
try_node-requires-clause-node c =
    let count = c.region_count-nodes.ensures.value in
    subst (λ x. IsInCube (cube_dim c.args.cube.now) (x + c.loop-m.m)) (sym count) (node_of_level (cube_dim c.args.cube.now) c.args.k c.loop-m.m c.requires.dim (omega (arith, count, c.loop-m-test.true))).0

pub returns-in-Ok-clause-taken : goal.returns-in-Ok-clause-taken
returns-in-Ok-clause-taken c =
    let count = c.region_count-nodes.ensures.value in
    takes_one c.args.cube.now c.args.k c.loop-m.m (station_entry c.args.self) (station_entry c.loop-m.station) c.loop-m.refusal _ c.requires.dim (omega (arith, count, c.loop-m-test.true)) c.loop-m.invariant.tries
    (subst (λ x. TakesNode c.args.cube.now (x + c.loop-m.m) (station_entry c.loop-m.station) c.in-Ok.subcube) count c.in-Ok.ensures.taken)

pub returns-in-Ok-clause-aligned : goal.returns-in-Ok-clause-aligned
returns-in-Ok-clause-aligned c = c.in-Ok.ensures.taken.aligned

pub returns-in-Ok-clause-dimension : goal.returns-in-Ok-clause-dimension
returns-in-Ok-clause-dimension c =
    let count = c.region_count-nodes.ensures.value in
    ap (λ (r : Region). r.dim) c.in-Ok.ensures.taken.region_is
    ∙ dim_of_level (cube_dim c.args.cube.now) c.args.k (c.region_count-nodes.result + c.loop-m.m) c.requires.dim (omega (arith, count)) (omega (arith, count, c.loop-m-test.true))

pub count-refusal-requires : goal.count-refusal-requires
count-refusal-requires c =
    let sum = tries_sum _ _ c.loop-m.m c.loop-m.refusal _ _ c.loop-m.invariant.tries in omega (arith, sum, c.loop-m-test.true, c.region_count-nodes.ensures.limit)

pub loop-m-preserved : goal.loop-m-preserved
loop-m-preserved c =
    let count = c.region_count-nodes.ensures.value in record {
      of_cube = c.in-Err.ensures.back;
      tries = one_more _ _ c.loop-m.m c.loop-m.refusal _ _ (station_entry c.loop-m.station) (station_entry c.in-Err.back) c.in-Err.why c.loop-m.invariant.tries
          (subst (λ x. IsRefusedTry (cube_dim c.args.cube.now) (x + c.loop-m.m) (station_entry c.loop-m.station) (station_entry c.in-Err.back) c.in-Err.why) count c.in-Err.ensures.refused) c.count-refusal.ensures;
      memory = c.in-Err.ensures.still_remembers ∙ c.loop-m.invariant.memory;
    }

pub returns-clause-refused : goal.returns-clause-refused
returns-clause-refused c =
    let all : c.loop-m.m ≡ 2 ^ (cube_dim c.args.cube.now - c.args.k) = omega (arith, c.region_count-nodes.ensures.value, c.loop-m-test.false, c.loop-m.auto.m-end) in
    refused_all (cube_dim c.args.cube.now) c.args.k (station_entry c.args.self) (station_entry c.loop-m.station) c.loop-m.refusal c.requires.dim
    (subst (λ m. Tries (cube_dim c.args.cube.now) (2 ^ (cube_dim c.args.cube.now - c.args.k)) m c.loop-m.refusal (station_entry c.args.self) (station_entry c.loop-m.station)) all c.loop-m.invariant.tries)
