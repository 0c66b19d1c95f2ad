use Rattle.std.proofs.Common.{◌≡◌, Some, take}
use Rattle.std.specs.List.{All}
use Rattle.dispatcher.specs.declared.feeding.FeedStop.TheVariants.{Done}
use Rattle.dispatcher_threads.proofs.answering.all_fed.Given as goal

abbrev pub invariant-loop-lane : goal.invariant-loop-lane
invariant-loop-lane l = All (λ one. one.stop ≡ Some Done) (take l.lane-index l.lanes)
