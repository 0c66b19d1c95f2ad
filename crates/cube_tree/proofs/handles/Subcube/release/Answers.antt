use Rattle.std.proofs.Common.{rules}
use Rattle.cube_core.specs.declared.phase.Phase.TheVariants.{Leaving}
use Rattle.tree_steps.proofs.BoundLemmas.{release_bound}
use Rattle.tree_steps.proofs.WalkLemmas.{station_of_begun}
use Rattle.cube_tree.specs.Handles.{subcube_entry}
use Rattle.cube_tree.proofs.HandleLemmas.{begun_after, makes_after, node_of_cube}
use Rattle.cube_tree.proofs.handles.Subcube.release.Goals as goal

pub invariant_of-result : goal.invariant_of-result
invariant_of-result c = record {
  idle = begun_after c.args.self.holds (Leaving c.args.self.node.0) c.give_back.ensures.walks c.give_back.ensures.phase;
  limit = c.args.self.limit;
}

pub returns-clause-back : goal.returns-clause-back
returns-clause-back c =
    let makes = makes_after c.args.self.holds (Leaving c.args.self.node.0) c.give_back.ensures.walks in record {
      of_cube = search rules;
      number = station_of_begun (Leaving c.args.self.node.0) c.args.self.seat.me c.give_back.ensures.walks;
      makes = makes;
      idle = c.give_back.ensures.phase.phase;
      bound = release_bound _ c.args.self.node.0 (subcube_entry c.args.self) _ (node_of_cube c.args.cube.now c.args.self c.requires) makes;
    }
