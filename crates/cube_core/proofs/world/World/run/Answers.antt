-- Each turn makes one act more of the schedule.
use Rattle.std.proofs.Common.{refl, sym}
use Rattle.cube_core.proofs.WorldLemmas.{without_trails_of, one_more, shape_trans, reached-lawful, IsWorld-of}
use Rattle.cube_core.proofs.world.World.run.Goals as goal

pub loop-act-init : goal.loop-act-init
loop-act-init c = record {
  world = sym (without_trails_of c.self.inside.dim c.self.inside.words.items c.self.inside.phases.items c.args.self.now c.self.view_is);
  shape = record { dim = refl; stations = refl };
  lawful = reached-lawful c.args.self.now (IsWorld-of c.self.view_is c.self.invariant).reached;
}

pub loop-act-preserved : goal.loop-act-preserved
loop-act-preserved c = record {
  world = one_more c.args.acts.now c.loop-act.act-index _ c.args.self.now c.loop-act.self c.make.new.self c.loop-act-test.true c.loop-act.invariant.world c.make.ensures.world;
  shape = shape_trans c.args.self.now c.loop-act.self c.make.new.self c.loop-act.invariant.shape c.make.ensures.shape;
  lawful = c.make.ensures.lawful;
}
