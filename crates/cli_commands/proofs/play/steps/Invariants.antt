use Rattle.std.proofs.Common.{replicate}
use Rattle.cube_core.specs.World.{HasShapeOf}
use Rattle.cube_core.specs.declared.act.Act.TheVariants as act
use Rattle.cli_commands.specs.Trace.{IsTrace}
use Rattle.cli_commands.specs.Replay.{ActStep}
use Rattle.cli_commands.proofs.play.steps.Given as goal

abbrev pub invariant-loop-made : goal.invariant-loop-made
invariant-loop-made l = record {
  acts : IsTrace ActStep (replicate l._made (act.Step l.fn.station)) l.fn.world l.world
      l.rows.items;
  shape : HasShapeOf l.fn.world l.world;
}
