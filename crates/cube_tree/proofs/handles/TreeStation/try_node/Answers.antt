use Rattle.std.proofs.Common.{rules, refl, sym, subst, ◌∙◌, ap, ◌+◌, ◌^◌, ◌<◌, ◌≤◌}
use Rattle.atomic_table.specs.Seated.{TableId}
use Rattle.cube_core.specs.declared.phase.Phase.TheVariants.{Looking}
use Rattle.tree_steps.proofs.BoundLemmas.{take_bound}
use Rattle.cube_shape.specs.declared.limits.TheConstants.{MAX_DIM}
use Rattle.cube_core.specs.Held.{region_at}
use Rattle.tree_steps.specs.declared.view.Size.{Size}
use Rattle.cube_shape.specs.Region.{IsAligned}
use Rattle.tree_steps.proofs.WalkLemmas.{station_of_begun}
use Rattle.cube_tree.specs.Handles.{cube_dim, station_entry}
use Rattle.cube_tree.proofs.HandleLemmas.{begun_after, makes_after, node_aligned, node_names}
use Rattle.cube_tree.proofs.handles.TreeStation.try_node.Goals as goal

pub invariant_of-result : goal.invariant_of-result
invariant_of-result c =
    let dims = ap (λ (size : Size). size.dim) c.size-dim.ensures in record {
      holds = begun_after c.args.self.idle (Looking c.args.node.0) c.in-Ok.ensures.walks c.in-Ok.ensures.phase;
      limit = c.args.self.limit;
      positive = c.requires.node.0;
      in_cube = subst (λ d. c.args.node.0 < 2 ^ (d + 1)) (sym dims) c.requires.node.1;
      words = ap (λ (id : TableId). id.words) (c.in-Ok.ensures.seat ∙ c.requires.cube) ∙ c.args.cube.now.tree.words ∙ ap (λ d. 2 ^ (d + 1)) (sym dims);
      dim_in_limits = subst (λ d. d ≤ MAX_DIM) (sym dims) c.args.cube.now.tree.dim_in_limits;
      named = c.region_at_node.ensures;
    }

pub invariant_of-result-in-Err : goal.invariant_of-result-in-Err
invariant_of-result-in-Err c = record {
  idle = begun_after c.args.self.idle (Looking c.args.node.0) c.in-Err.ensures.walks c.in-Err.ensures.phase;
  limit = c.args.self.limit;
}

pub returns-in-Ok-clause-taken : goal.returns-in-Ok-clause-taken
returns-in-Ok-clause-taken c =
    let makes = makes_after c.args.self.idle (Looking c.args.node.0) c.in-Ok.ensures.walks in
    let region_is = c.region_at_node.ensures ∙ ap (λ (size : Size). region_at size.dim c.args.node.0) c.size-dim.ensures in record {
      of_cube = search rules;
      number = station_of_begun (Looking c.args.node.0) c.args.self.seat.me c.in-Ok.ensures.walks;
      makes = makes;
      holds = c.in-Ok.ensures.phase.phase;
      node_is = refl;
      region_is = region_is;
      aligned = subst (IsAligned (cube_dim c.args.cube.now)) (sym region_is) (node_aligned (cube_dim c.args.cube.now) c.args.node.0 c.requires.node);
      asked = λ r named. region_is ∙ node_names (cube_dim c.args.cube.now) c.args.node.0 c.requires.node r named;
      bound = take_bound _ c.args.node.0 (station_entry c.args.self) _ c.requires.node makes;
    }

pub returns-in-Err-clause-refused : goal.returns-in-Err-clause-refused
returns-in-Err-clause-refused c =
    let makes = makes_after c.args.self.idle (Looking c.args.node.0) c.in-Err.ensures.walks in record {
      number = station_of_begun (Looking c.args.node.0) c.args.self.seat.me c.in-Err.ensures.walks;
      makes = makes;
      idle = c.in-Err.ensures.phase.phase;
      answer = c.in-Err.ensures.refused;
      names = c.in-Err.ensures.names;
      bound = take_bound _ c.args.node.0 (station_entry c.args.self) _ c.requires.node makes;
    }
