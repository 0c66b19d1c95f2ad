use Rattle.std.proofs.Common.{◌≡◌, reverse, take}
use Rattle.cube_core.specs.Schedule.{apply_all}
use Rattle.cube_core.specs.World.{HasShapeOf, without_trails}
use Rattle.cube_core.specs.Law.{IsTreeLawful}
use Rattle.cube_core.proofs.world.World.run.Given as goal

abbrev pub invariant-loop-act : goal.invariant-loop-act
invariant-loop-act l = record {
  world : l.self ≡ without_trails (apply_all (reverse (take l.act-index l.acts)) l.fn.self);
  shape : HasShapeOf l.fn.self l.self;
  lawful : IsTreeLawful l.self;
}
