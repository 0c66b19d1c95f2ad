use Rattle.std.proofs.Common.{◌≡◌, ◌++◌, ◌∷◌, [], rules}
use Rattle.cube_core.specs.declared.act.Act.TheVariants as act
use Rattle.cli_commands.specs.Replay.{ActStep}
use Rattle.cli_commands.proofs.ReplayLemmas.{kept_twice, once_more}
use Rattle.cli_commands.proofs.play.steps.Goals as goal

pub loop-made-preserved : goal.loop-made-preserved
loop-made-preserved c =
    let rows : c.push.new.self.items ≡ c.loop-made.rows.items ++ c.step.result ∷ [] = search rules in
    record {
      acts = rw rows (once_more ActStep (act.Step c.args.station) c.loop-made._made c.args.world.now c.loop-made.world c.step.new.world c.loop-made.rows.items (c.step.result ∷ []) c.loop-made.invariant.acts c.step.ensures.acts);
      shape = kept_twice c.args.world.now c.loop-made.world c.step.new.world c.loop-made.invariant.shape c.step.ensures.shape;
    }
