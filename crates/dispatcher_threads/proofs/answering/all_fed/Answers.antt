use Rattle.std.proofs.Common.{rules, ◌≡◌, Some, subst}
use Rattle.std.specs.List.{All}
use Rattle.std.proofs.lemmas.List.{take_all}
use Rattle.std.proofs.lemmas.List.Elements.{All-more}
use Rattle.dispatcher.specs.declared.feeding.FeedStop.TheVariants.{Done}
use Rattle.dispatcher_threads.specs.declared.running.LaneEnd.{LaneEnd}
use Rattle.dispatcher_threads.proofs.answering.all_fed.Goals as goal

pub loop-lane-preserved : goal.loop-lane-preserved
loop-lane-preserved c = All-more (λ (l : LaneEnd). l.stop ≡ Some Done) c.args.lanes.now c.loop-lane.lane-index c.lane-item.result (search rules) c.loop-lane.invariant (search rules)

pub returns : goal.returns
returns c = (λ is. subst (All (λ (l : LaneEnd). l.stop ≡ Some Done)) (take_all c.loop-lane.lane-index c.args.lanes.now (search rules)) c.loop-lane.invariant, λ all. search rules)
