use Rattle.std.proofs.Common.{ℕ, ◌<◌, length, replicate}
use Rattle.cube_core.specs.Count.{events_due}
use Rattle.cube_core.specs.Schedule.{phase_of}
use Rattle.cube_core.specs.World.{HasShapeOf}
use Rattle.cube_core.specs.declared.act.Act.TheVariants as act
use Rattle.cli_commands.specs.Trace.{IsTrace}
use Rattle.cli_commands.specs.Replay.{AcceptedStep}
use Rattle.cli_commands.proofs.play.run.Given as goal

abbrev pub invariant-loop-event : goal.invariant-loop-event
invariant-loop-event l = record {
  there : l.station < length l.world.records;
  moves : (steps : ℕ) × IsTrace AcceptedStep (replicate steps (act.Step l.station)) l.fn.world
      l.world l.rows.items;
  shape : HasShapeOf l.fn.world l.world;
}

-- what the station still has to do
abbrev pub decreases-loop-event : goal.decreases-loop-event
decreases-loop-event l = events_due l.world.dim (phase_of l.world l.station)
