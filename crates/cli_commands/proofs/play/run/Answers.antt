use Rattle.std.proofs.Common.{◌≡◌, ◌+◌, ◌<◌, ◌++◌, ◌∷◌, [], refl, sym, subst, rules}
use Rattle.cube_core.specs.declared.act.Act.TheVariants as act
use Rattle.jobs_csv.specs.declared.replay_rows.ReplayRow.TheVariants as row
use Rattle.cli_commands.specs.Replay.{AcceptedStep}
use Rattle.cli_commands.proofs.ReplayLemmas.{is_accepted, kept_twice, once_more}
use Rattle.cli_commands.proofs.play.run.Goals as goal

pub loop-event-preserved : goal.loop-event-preserved
loop-event-preserved c =
    let (steps, moves) = c.loop-event.invariant.moves in
    let told = row.Made c.in-Ok.event ∷ [] in
    let rows : c.push.new.self.items ≡ c.loop-event.rows.items ++ told = search rules in
    let moved : AcceptedStep (act.Step c.args.station) c.loop-event.world c.step.new.self told =
    (c.in-Ok.ensures.accepted, is_accepted (act.Step c.args.station) c.loop-event.world c.step.new.self told c.in-Ok.ensures.accepted c.in-Ok.ensures.world (c.in-Ok.event, c.in-Ok.ensures.event, refl)) in
    record {
      there = subst (λ count. c.args.station < count) (sym c.step.ensures.shape.stations) c.loop-event.invariant.there;
      moves = (steps + 1, rw rows (once_more AcceptedStep (act.Step c.args.station) steps c.args.world.now c.loop-event.world c.step.new.self c.loop-event.rows.items told moves moved));
      shape = kept_twice c.args.world.now c.loop-event.world c.step.new.self c.loop-event.invariant.shape c.step.ensures.shape;
    }
